-- What a view of slices gives.
use Rattle.std.proofs.Common.{◌≡◌, ℕ, zero, suc, ◌+◌, ◌<◌, ◌≤◌, Bool, true, false, ◌&&◌, List, [], ◌∷◌, ◌++◌, length, get_or, map, take, drop, All, Ok, refl, sym, ap, ◌∙◌, arith}
use Rattle.std.specs.Prelude.{nat_lt, nat_le, slice_index}
use Rattle.std.specs.List.{list_all, flat_map, sum_by, range_with_len, AllByRecursion}
use Rattle.std.proofs.lemmas.List.{append-nil, ext_get_or, length-take, length-drop, length-append, get_or-take, get_or-drop, map-append}
use Rattle.std.proofs.lemmas.List.Folds.{list_all_at, list_all-append}
use Rattle.std.proofs.lemmas.List.Elements.{All-push, recursion_from_All}
use Rattle.std.proofs.lemmas.List.FromFn.{length-map-range_with_len, get_or-map-range_with_len}
use Rattle.std.proofs.lemmas.List.Sums.{sum_by-cons}
use Rattle.std.proofs.lemmas.Bool.Decides.{nat_tests}
use Rattle.pdb_base.specs.declared.source.SourceSlice.{SourceSlice}
use Rattle.pdb_base.specs.Source.{is_inside, slice_bytes, viewed}
use Rattle.pdb_base.specs.Container.{bytes_of_places}
use Rattle.pdb_base.specs.Joined.{slice_places, joined_places, IsFull}

-- what passes a test of all passes it at each place
pub list_all_get : {X : Type 0} (p : X → Bool) (xs : List X) (i : ℕ) (d : X) → list_all p xs ≡ true → i < length xs → p (get_or xs i d) ≡ true
list_all_get p xs i d all lt = by_cases (p (get_or xs i d)) refl
  where
    by_cases : (b : Bool) → p (get_or xs i d) ≡ b → p (get_or xs i d) ≡ true
    by_cases true e = e
    by_cases false e = let no = list_all_at p xs i d lt e in absurd cc

pub one_slice : (file : List ℕ) (slices : List SourceSlice) (d : SourceSlice) → length slices ≡ 1 → list_all (is_inside file) slices ≡ true → viewed file slices ≡ Ok (slice_bytes file (get_or slices 0 d))
unfolding viewed
one_slice file [] d n all = absurd cc
one_slice file (s ∷ []) d n all = rw all (ap Ok (append-nil (slice_bytes file s)))
one_slice file (s ∷ t ∷ ss) d n all = absurd (omega arith)

and_both : (a b : Bool) → (a && b) ≡ true → (a ≡ true) × (b ≡ true)
and_both true b e = (refl, e)
and_both false b e = absurd cc

-- slices inside the file have as many bytes as they say
pub flat_length : (file : List ℕ) (ss : List SourceSlice) → list_all (is_inside file) ss ≡ true → length (flat_map (slice_bytes file) ss) ≡ sum_by (λ s. s.size) ss
flat_length file [] all = refl
flat_length file (s ∷ ss) all =
    let b = and_both (is_inside file s) (list_all (is_inside file) ss) all in
    let le : s.offset + s.size ≤ length file = grind (arith, nat_tests) in
    let one : length (slice_bytes file s) ≡ s.size = simp (length-take, length-drop) (omega arith) in
    length-append (slice_bytes file s) (flat_map (slice_bytes file) ss) ∙ ap (λ n. n + length (flat_map (slice_bytes file) ss)) one
    ∙ ap (λ n. s.size + n) (flat_length file ss b.1) ∙ sym (sum_by-cons (λ s. s.size) s ss)

-- every place of a slice with a byte is in the file exactly where its end is
all_below : (o n len : ℕ) → 0 < n → list_all (λ p. nat_lt p len) (range_with_len o n) ≡ nat_le (o + n) len
all_below o zero len pos = absurd (omega arith)
all_below o (suc zero) len pos = grind (arith, nat_tests)
all_below o (suc (suc n)) len pos =
    let rest = all_below (o + 1) (suc n) len (omega arith) in
    rw rest (two o n len)
  where
    two : (o n len : ℕ) → (nat_lt o len && nat_le (o + 1 + suc n) len) ≡ nat_le (o + suc (suc n)) len
    two o n len = grind (arith, nat_tests)

all_inside : (file : List ℕ) (ss : List SourceSlice) → AllByRecursion IsFull ss → list_all (λ p. nat_lt p (length file)) (flat_map slice_places ss) ≡ list_all (is_inside file) ss
all_inside file [] full = refl
all_inside file (s ∷ ss) full =
    list_all-append (λ p. nat_lt p (length file)) (slice_places s) (flat_map slice_places ss)
    ∙ ap (λ b. b && list_all (λ p. nat_lt p (length file)) (flat_map slice_places ss)) (all_below s.offset s.size (length file) full.0)
    ∙ ap (λ b. is_inside file s && b) (all_inside file ss full.1)

part_places : (file : List ℕ) (o n : ℕ) → o + n ≤ length file → take n (drop o file) ≡ map (slice_index file) (range_with_len o n)
part_places file o n le =
    let len : length (take n (drop o file)) ≡ n = simp (length-take, length-drop) (omega arith) in
    ext_get_or 0 _ _ (len ∙ sym (length-map-range_with_len (slice_index file) o n))
    (λ i h.
    let lt : i < n = omega arith in
    get_or-take n (drop o file) i 0 lt ∙ get_or-drop o file i 0 ∙ sym (get_or-map-range_with_len (slice_index file) o n i (o + i) 0 lt refl))

bytes_places : (file : List ℕ) (ss : List SourceSlice) → list_all (is_inside file) ss ≡ true → flat_map (slice_bytes file) ss ≡ map (slice_index file) (flat_map slice_places ss)
bytes_places file [] all = refl
bytes_places file (s ∷ ss) all =
    let b = and_both (is_inside file s) (list_all (is_inside file) ss) all in
    let le : s.offset + s.size ≤ length file = grind (arith, nat_tests) in
    ap (λ (bs : List ℕ). bs ++ flat_map (slice_bytes file) ss) (part_places file s.offset s.size le)
    ∙ ap (λ (bs : List ℕ). map (slice_index file) (slice_places s) ++ bs) (bytes_places file ss b.1)
    ∙ sym (map-append (slice_index file) (slice_places s) (flat_map slice_places ss))

-- slices are viewed by their places
pub viewed-places : (file : List ℕ) (ss : List SourceSlice) → All IsFull ss → viewed file ss ≡ bytes_of_places file (joined_places ss)
unfolding viewed bytes_of_places joined_places
viewed-places file ss full = by_test (list_all (is_inside file) ss) refl
  where
    same : list_all (λ p. nat_lt p (length file)) (flat_map slice_places ss) ≡ list_all (is_inside file) ss
    same = all_inside file ss (recursion_from_All IsFull ss full)

    by_test : (b : Bool) → list_all (is_inside file) ss ≡ b → viewed file ss ≡ bytes_of_places file (joined_places ss)
    by_test true e = rw (same, e) (ap Ok (bytes_places file ss e))
    by_test false e = rw (same, e) refl

-- so is one, and one without a byte needs no view
pub viewed-run : (file : List ℕ) (s : SourceSlice) → 0 < s.size → viewed file (s ∷ []) ≡ bytes_of_places file (slice_places s)
unfolding joined_places
viewed-run file s full = viewed-places file (s ∷ []) (All-push IsFull [] s (λ k d h. absurd (omega arith)) full) ∙ ap (bytes_of_places file) (append-nil (slice_places s))

pub no-run : (file : List ℕ) (s : SourceSlice) → s.size ≡ 0 → bytes_of_places file (slice_places s) ≡ Ok []
unfolding bytes_of_places
no-run file s none = ap (λ (n : ℕ). bytes_of_places file (range_with_len s.offset n)) none

pub run-alone : (ss : List SourceSlice) (s : SourceSlice) → length ss ≡ 0 → joined_places ss ++ slice_places s ≡ slice_places s
unfolding joined_places
run-alone [] s e = refl
run-alone (t ∷ ss) s e = absurd (omega arith)
