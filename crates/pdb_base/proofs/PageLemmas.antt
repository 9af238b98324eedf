-- The places of a stream, page by page.
use Rattle.std.proofs.Common.{◌≡◌, ℕ, ◌+◌, ◌-◌, ◌*◌, ◌/◌, ◌%◌, ◌<◌, ◌≤◌, min, true, false, cond, not, List, [], ◌∷◌, ◌++◌, length, get_or, map, drop, Option, Some, None, Ok, Err, refl, sym, ap, ◌∙◌, arith, zero-add, append_assoc}
use Rattle.std.specs.List.{range_with_len, flat_map, sum_by, find}
use Rattle.std.proofs.lemmas.List.{map-append, append-nil, same_lists, at_drop_more, at_drop_all}
use Rattle.std.proofs.lemmas.List.Concat.{flat_map-append, length-flat_map}
use Rattle.std.proofs.lemmas.List.Sums.{sum_by-cons}
use Rattle.std.proofs.lemmas.List.FromFn.{length-map-range_with_len, get_or-map-range_with_len, length-range_with_len, get_or-range_with_len}
use Rattle.std.proofs.lemmas.Bool.Decides.{nat_tests}
use Rattle.std.proofs.lemmas.Nat.{div-mul-add, mod-mul-add}
use Rattle.pdb_base.specs.declared.error.Error.TheVariants.{PageReferenceOutOfRange}
use Rattle.pdb_base.specs.declared.source.SourceSlice.{SourceSlice}
use Rattle.pdb_base.specs.Fields.{number}
use Rattle.pdb_base.specs.Container.{numbers, place, places, is_page, tested}
use Rattle.pdb_base.specs.Joined.{slice_places, joined_places}
use Rattle.pdb_base.proofs.Ranges.{range-split}

pub length-numbers : (bytes : List ℕ) (p count : ℕ) → length (numbers bytes p count) ≡ count
unfolding numbers
length-numbers bytes p count = length-map-range_with_len (λ k. number bytes (p + 4 * k) 4) 0 count

pub get_or-numbers : (bytes : List ℕ) (p count k : ℕ) → k < count → get_or (numbers bytes p count) k 0 ≡ number bytes (p + 4 * k) 4
unfolding numbers
get_or-numbers bytes p count k lt = get_or-map-range_with_len (λ k. number bytes (p + 4 * k) 4) 0 count k k 0 lt (omega arith)

-- within page k the places go on one by one
page_places : (P : ℕ) (pages : List ℕ) (k n d : ℕ) → n ≤ P → d ≡ k * P → map (place P pages) (range_with_len d n) ≡ range_with_len (get_or pages k 0 * P) n
page_places P pages k n d le e =
    same_lists _ _
    (length-map-range_with_len (place P pages) d n ∙ sym (length-range_with_len (get_or pages k 0 * P) n))
    (λ i x h.
    let lt : i < n = omega (arith, length-map-range_with_len (place P pages) d n) in
    let lt' : i < P = omega arith in
    let q : (k * P + i) / P ≡ k = div-mul-add k P i lt' in
    let r : (k * P + i) % P ≡ i = mod-mul-add k P i lt' in
    get_or-map-range_with_len (place P pages) d n i (d + i) x lt refl
    ∙ rw (e, q, r) (sym (get_or-range_with_len (get_or pages k 0 * P) n i x lt)))

-- one page more
pub places-step : (P : ℕ) (pages : List ℕ) (k n d : ℕ) → n ≤ P → d ≡ k * P → places P pages (d + n) ≡ places P pages d ++ range_with_len (get_or pages k 0 * P) n
unfolding places
places-step P pages k n d le e =
    ap (map (place P pages)) (range-split 0 d n) ∙ map-append (place P pages) (range_with_len 0 d) (range_with_len (0 + d) n)
    ∙ ap (λ (ps : List ℕ). map (place P pages) (range_with_len 0 d) ++ ps) (page_places P pages k n (0 + d) le (omega arith))

pub joined-push : (ss : List SourceSlice) (s : SourceSlice) → joined_places (ss ++ s ∷ []) ≡ joined_places ss ++ slice_places s
unfolding joined_places
joined-push ss s = flat_map-append slice_places ss (s ∷ []) ∙ ap (λ (ps : List ℕ). flat_map slice_places ss ++ ps) (append-nil (slice_places s))

-- the first of the numbers from the k-th on that is no page
abbrev pub refused_from : ℕ → ℕ → List ℕ → Option ℕ
refused_from used k pages = find (λ page. not (is_page used page)) (drop k pages)

-- a neighbour makes the slice longer
pub places-longer : (s : SourceSlice) (offset size : ℕ) → s.offset + s.size ≡ offset → range_with_len s.offset (s.size + size) ≡ slice_places s ++ range_with_len offset size
places-longer s offset size e = range-split s.offset s.size size ∙ ap (λ o. slice_places s ++ range_with_len o size) e

pub joined-longer : (ss : List SourceSlice) (s : SourceSlice) (offset size : ℕ) → s.offset + s.size ≡ offset → joined_places ss ++ range_with_len s.offset (s.size + size) ≡ joined_places ss ++ slice_places s ++ range_with_len offset size
joined-longer ss s offset size e = ap (λ (ps : List ℕ). joined_places ss ++ ps) (places-longer s offset size e) ∙ sym (append_assoc (joined_places ss) (slice_places s) (range_with_len offset size))

pub joined-empty : (ss : List SourceSlice) (s : SourceSlice) (ps : List ℕ) → s.size ≡ 0 → joined_places ss ++ ps ≡ joined_places ss ++ slice_places s ++ ps
joined-empty ss s ps e = let f : slice_places s ≡ [] = ap (range_with_len s.offset) e in rw f (ap (λ (qs : List ℕ). qs ++ ps) (sym (append-nil (joined_places ss))))

pub joined-next : (ss : List SourceSlice) (s : SourceSlice) (ps : List ℕ) → joined_places (ss ++ s ∷ []) ++ ps ≡ joined_places ss ++ slice_places s ++ ps
joined-next ss s ps = ap (λ (qs : List ℕ). qs ++ ps) (joined-push ss s)

pub ruleset joining = (joined-longer, joined-empty, joined-next)

pub refused-more : (used k : ℕ) (pages : List ℕ) (page : ℕ) → k < length pages → get_or pages k 0 ≡ page → refused_from used k pages ≡ cond (not (is_page used page)) (Some page) (refused_from used (k + 1) pages)
refused-more used k pages page lt e = at_drop_more (find (λ page. not (is_page used page))) pages k 0 lt ∙ rw e refl

pub refused-all : (used k : ℕ) (pages : List ℕ) → length pages ≤ k → refused_from used k pages ≡ None
refused-all used k pages le = at_drop_all (find (λ page. not (is_page used page))) pages k le

pub tested-refused : (P used k page size : ℕ) (pages : List ℕ) → k < length pages → get_or pages k 0 ≡ page → not (is_page used page) ≡ true → refused_from used k pages ≡ refused_from used 0 pages → tested P used pages size ≡ Err (PageReferenceOutOfRange page)
unfolding tested
tested-refused P used k page size pages lt e bad same =
    let f : refused_from used 0 pages ≡ Some page = sym same ∙ refused-more used k pages page lt e ∙ rw bad refl in
    rw f refl

pub tested-passes : (P used k size : ℕ) (pages : List ℕ) → length pages ≤ k → refused_from used k pages ≡ refused_from used 0 pages → tested P used pages size ≡ Ok (places P pages size)
unfolding tested
tested-passes P used k size pages le same =
    let f : refused_from used 0 pages ≡ None = sym same ∙ refused-all used k pages le in
    rw f refl

-- one page more of what is joined
pub so_far-step : (P : ℕ) (pages : List ℕ) (k size left part page : ℕ) (before after : List ℕ) → k * P < size → left ≡ size - k * P → part ≡ min left P → get_or pages k 0 ≡ page
    → after ≡ before ++ range_with_len (page * P) part → before ≡ places P pages (size - left) → after ≡ places P pages (size - (left - part))
so_far-step P pages k size left part page before after lt e m q step so_far =
    let d : size - left ≡ k * P = omega arith in
    let n : part ≤ P = omega arith in
    let t : (size - left) + part ≡ size - (left - part) = omega arith in
    step ∙ ap (λ (ps : List ℕ). ps ++ range_with_len (page * P) part) so_far ∙ ap (λ x. places P pages (size - left) ++ range_with_len (x * P) part) (sym q)
    ∙ sym (places-step P pages k part (size - left) n d) ∙ ap (places P pages) t

-- the number at k that a loop reads
pub page-read : (bytes : List ℕ) (count k page : ℕ) → k < count → page ≡ number bytes (4 * k) 4 → get_or (numbers bytes 0 count) k 0 ≡ page
page-read bytes count k page lt e = get_or-numbers bytes 0 count k lt ∙ ap (λ p. number bytes p 4) (zero-add (4 * k)) ∙ sym e

pub no_page : (used page : ℕ) → (page < 1 → not (is_page used page) ≡ true) × (used ≤ page → not (is_page used page) ≡ true) × (0 < page → page < used → not (is_page used page) ≡ false)
no_page used page = (λ h. grind (arith, nat_tests), λ h. grind (arith, nat_tests), λ g h. grind (arith, nat_tests))

-- slices have as many places as they say
pub joined-length : (ss : List SourceSlice) → length (joined_places ss) ≡ sum_by (λ s. s.size) ss
unfolding joined_places
joined-length ss = length-flat_map slice_places ss ∙ same ss
  where
    same : (ss : List SourceSlice) → sum_by (λ s. length (slice_places s)) ss ≡ sum_by (λ s. s.size) ss
    same [] = refl
    same (s ∷ ss) = sum_by-cons (λ s. length (slice_places s)) s ss ∙ ap (λ n. n + sum_by (λ s. length (slice_places s)) ss) (length-range_with_len s.offset s.size) ∙ ap (λ n. s.size + n) (same ss) ∙ sym (sum_by-cons (λ s. s.size) s ss)

pub joined-none : (ss : List SourceSlice) (s : SourceSlice) → s.size ≤ 0 → joined_places ss ≡ joined_places ss ++ slice_places s
joined-none ss s le = let z : s.size ≡ 0 = omega arith in let f : slice_places s ≡ [] = ap (range_with_len s.offset) z in rw f (sym (append-nil (joined_places ss)))
