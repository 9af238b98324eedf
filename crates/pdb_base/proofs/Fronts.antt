-- The front of a stream is the beginning of the stream.
use Rattle.std.proofs.Common.{◌≡◌, ℕ, zero, suc, ◌+◌, ◌*◌, ◌/◌, ◌%◌, ◌<◌, ◌≤◌, min, Bool, true, false, cond, not, ◌&&◌, List, length, map, take, drop, Option, Some, None, Result, Ok, Err, refl, sym, ap, ◌∙◌, arith, inl, inr}
use Rattle.std.specs.Prelude.{slice_index, nat_lt, nat_eq}
use Rattle.std.specs.List.{find, list_all, starts_with}
use Rattle.std.specs.Option.{option_or}
use Rattle.std.specs.Int.{div_ceil}
use Rattle.std.proofs.Math.Nat.{div-lt_iff_lt-mul}
use Rattle.std.proofs.lemmas.Bool.{cases_lt}
use Rattle.std.proofs.lemmas.Bool.Decides.{nat_tests}
use Rattle.std.proofs.lemmas.List.{take-append-drop, ext_get_or, get_or-take, take-map, take_all}
use Rattle.std.proofs.lemmas.List.Folds.{find-append, list_all-append}
use Rattle.std.proofs.lemmas.List.FromFn.{take-map-range_with_len, length-map-range_with_len, get_or-map-range_with_len}
use Rattle.pdb_base.specs.declared.error.Error.{Error}
use Rattle.pdb_base.specs.declared.error.Error.TheVariants.{UnexpectedEof, PageReferenceOutOfRange, UnrecognizedFileFormat, UnimplementedFeature, InvalidPageSize}
use Rattle.pdb_base.specs.declared.error.Feature.TheVariants.{SmallMsf}
use Rattle.pdb_base.specs.Refusal.{◌>>=◌}
use Rattle.pdb_base.specs.Fields.{number}
use Rattle.pdb_base.specs.Container.{numbers, numbers_at, pages_at, place, places, is_page, tested, unless_refused, bytes_of_places, paged, head_of, Head, list_of, open_of, Opened, size_of, front_of, stream_of, is_page_size, page_numbers_of, small_magic, magic}
use Rattle.pdb_base.proofs.Ranges.{before_ceil, ceil_holds}
use Rattle.pdb_base.proofs.OpenLemmas.{paged-length}

bind_ok : {A B : Type 0} (r : Result A Error) (f : A → Result B Error) (y : B) → (r >>= f) ≡ Ok y → (x : A) × (r ≡ Ok x) × (f x ≡ Ok y)
bind_ok (Ok x) f y e = (x, refl, e)
bind_ok (Err d) f y e = absurd cc

guard_ok : {A : Type 0} (b : Bool) (d : Error) (r : Result A Error) (y : A) → cond b (Err d) r ≡ Ok y → (b ≡ false) × (r ≡ Ok y)
guard_ok true d r y e = absurd cc
guard_ok false d r y e = (refl, e)

-- ---- a page size is not 0

positive : (P : ℕ) → is_page_size P ≡ true → 0 < P
positive zero e = absurd cc
positive (suc n) e = omega arith

not_false : (b : Bool) → not b ≡ false → b ≡ true
not_false true e = refl
not_false false e = absurd cc

abbrev page_size_of : Result Head Error → ℕ
page_size_of (Ok h) = h.page_size
page_size_of (Err e) = 0

abbrev opened_page_size : Result Opened Error → ℕ
opened_page_size (Ok o) = o.page_size
opened_page_size (Err e) = 0

fourth : (a b c d : Bool) (w x y z : Error) (r : Result Head Error) (h : Head) → cond a (Err w) (cond b (Err x) (cond c (Err y) (cond d (Err z) r))) ≡ Ok h → (d ≡ false) × (r ≡ Ok h)
fourth a b c d w x y z r h e =
    let g1 = guard_ok a w _ h e in
    let g2 = guard_ok b x _ h g1.1 in
    let g3 = guard_ok c y _ h g2.1 in
    guard_ok d z r h g3.1

head-positive : (file : List ℕ) (h : Head) → head_of file ≡ Ok h → 0 < h.page_size
unfolding head_of
head-positive file h e =
    let P = number file 32 4 in
    let last = fourth (nat_lt (length file) 52) (starts_with nat_eq file small_magic) (not (starts_with nat_eq file magic)) (not (is_page_size P)) UnrecognizedFileFormat (UnimplementedFeature SmallMsf) UnrecognizedFileFormat (InvalidPageSize P) (Ok (record { page_size = P; pages_used = number file 40 4; directory_size = number file 44 4 })) h e in
    let same : P ≡ h.page_size = ap page_size_of last.1 in
    rw (← same) (positive P (not_false (is_page_size P) last.0))

abbrev opened : Head → List ℕ → Opened
opened h directory = record { page_size = h.page_size; pages_used = h.pages_used; directory = directory }

abbrev with_directory : List ℕ → Head → List ℕ → Result Opened Error
with_directory file h list = paged file h.page_size h.pages_used (numbers list 0 (div_ceil h.directory_size h.page_size)) h.directory_size >>= λ directory. Ok (opened h directory)

directory-positive : (file : List ℕ) (h : Head) (list : List ℕ) (o : Opened) → 0 < h.page_size → with_directory file h list ≡ Ok o → 0 < o.page_size
directory-positive file h list o pos e =
    let last = bind_ok (paged file h.page_size h.pages_used (numbers list 0 (div_ceil h.directory_size h.page_size)) h.directory_size) (λ directory. Ok (opened h directory)) o e in
    let same : h.page_size ≡ o.page_size = ap opened_page_size last.2 in
    rw (← same) pos

open-positive : (file : List ℕ) (o : Opened) → open_of file ≡ Ok o → 0 < o.page_size
unfolding open_of
open-positive file o e =
    let (h, eh, e1) = bind_ok (head_of file) (λ h. list_of file h >>= λ list. with_directory file h list) o e in
    let (list, el, e2) = bind_ok (list_of file h) (λ list. with_directory file h list) o e1 in
    directory-positive file h list o (head-positive file h eh) e2

-- ---- the pages of the front

ceil_mono : (e s P : ℕ) → 0 < P → e ≤ s → div_ceil e P ≤ div_ceil s P
ceil_mono e s P pos le = elim (cases_lt (div_ceil s P) (div_ceil e P)) [
  | inl h ↦ (let b = before_ceil (div_ceil s P) e P pos h in let c = ceil_holds s P pos in absurd (omega arith))
  | inr h ↦ h
]

guard_mono : (len at c d : ℕ) → c ≤ d → (nat_lt 0 d && nat_lt len (at + 4 * d)) ≡ false → (nat_lt 0 c && nat_lt len (at + 4 * c)) ≡ false
guard_mono len at c d le h = grind (arith, nat_tests)

pages_front : (directory : List ℕ) (P n e s : ℕ) (pages : List ℕ) → 0 < P → e ≤ s → pages_at directory P n s ≡ Ok pages → pages_at directory P n e ≡ Ok (take (div_ceil e P) pages)
unfolding pages_at numbers
pages_front directory P n e s pages pos le h =
    let g = guard_ok _ _ _ pages h in
    let m = ceil_mono e s P pos le in
    let f = guard_mono (length directory) (numbers_at directory P n) (div_ceil e P) (div_ceil s P) m g.0 in
    let same : numbers directory (numbers_at directory P n) (div_ceil s P) ≡ pages = cc in
    let t = take-map-range_with_len (λ k. number directory (numbers_at directory P n + 4 * k) 4) 0 (div_ceil s P) (div_ceil e P) m in
    rw f (ap Ok (sym t ∙ ap (take (div_ceil e P)) same))

-- ---- what is found in the front

or_none : {A : Type 0} (a b : Option A) → option_or a b ≡ None → a ≡ None
or_none None b e = refl
or_none (Some x) b e = absurd cc

or_some : {A : Type 0} (a b : Option A) (x : A) → a ≡ Some x → option_or a b ≡ Some x
or_some None b x e = absurd cc
or_some (Some y) b x e = e

find_whole : (p : ℕ → Bool) (k : ℕ) (xs : List ℕ) → find p xs ≡ option_or (find p (take k xs)) (find p (drop k xs))
find_whole p k xs = ap (find p) (sym (take-append-drop k xs)) ∙ find-append p (take k xs) (drop k xs)

found_none : (p : ℕ → Bool) (k : ℕ) (xs : List ℕ) → find p xs ≡ None → find p (take k xs) ≡ None
found_none p k xs e = or_none _ _ (sym (find_whole p k xs) ∙ e)

found_some : (p : ℕ → Bool) (k : ℕ) (xs : List ℕ) (x : ℕ) → find p (take k xs) ≡ Some x → find p xs ≡ Some x
found_some p k xs x e = find_whole p k xs ∙ or_some _ _ x e

unless_ok : {A : Type 0} (o : Option ℕ) (x y : A) → unless_refused o x ≡ Ok y → (o ≡ None) × (x ≡ y)
unless_ok (Some page) x y e = absurd cc
unless_ok None x y e = (refl, cc)

unless_err : {A : Type 0} (o : Option ℕ) (x : A) (page : ℕ) → unless_refused o x ≡ Err (PageReferenceOutOfRange page) → o ≡ Some page
unless_err (Some n) x page e = ap Some (cc)
unless_err None x page e = absurd cc

-- ---- the places of the front

places_front : (P : ℕ) (pages : List ℕ) (e s : ℕ) → 0 < P → e ≤ s → places P (take (div_ceil e P) pages) e ≡ take e (places P pages s)
unfolding places
places_front P pages e s pos le =
    ext_get_or 0 _ _ (length-map-range_with_len (place P (take (div_ceil e P) pages)) 0 e ∙ sym (length-map-range_with_len (place P pages) 0 e))
    (λ i h.
    let lt : i < e = omega (arith, length-map-range_with_len (place P (take (div_ceil e P) pages)) 0 e) in
    let c = ceil_holds e P pos in
    let q : i / P < div_ceil e P = (div-lt_iff_lt-mul {k = P} {x = i} {y = div_ceil e P} pos).1 (omega arith) in
    get_or-map-range_with_len (place P (take (div_ceil e P) pages)) 0 e i i 0 lt (omega arith)
    ∙ ap (λ x. x * P + i % P) (get_or-take (div_ceil e P) pages (i / P) 0 q)
    ∙ sym (get_or-map-range_with_len (place P pages) 0 e i i 0 lt (omega arith)))
    ∙ sym (take-map-range_with_len (place P pages) 0 s e le)

tested_front : (P used : ℕ) (pages : List ℕ) (e s : ℕ) (ps : List ℕ) → 0 < P → e ≤ s → tested P used pages s ≡ Ok ps → tested P used (take (div_ceil e P) pages) e ≡ Ok (take e ps)
unfolding tested
tested_front P used pages e s ps pos le h =
    let w = unless_ok _ _ ps h in
    let f = found_none (λ page. not (is_page used page)) (div_ceil e P) pages w.0 in
    rw f (ap Ok (places_front P pages e s pos le ∙ ap (take e) w.1))

-- ---- the bytes of the front

test_ok : {A : Type 0} (b : Bool) (d : Error) (x y : A) → cond b (Ok x) (Err d) ≡ Ok y → (b ≡ true) × (x ≡ y)
test_ok true d x y e = (refl, cc)
test_ok false d x y e = absurd cc

both : (a b : Bool) → (a && b) ≡ true → a ≡ true
both true b e = refl
both false b e = absurd cc

bytes_front : (file ps bytes : List ℕ) (e : ℕ) → bytes_of_places file ps ≡ Ok bytes → bytes_of_places file (take e ps) ≡ Ok (take e bytes)
unfolding bytes_of_places
bytes_front file ps bytes e h =
    let p : ℕ → Bool = λ p. nat_lt p (length file) in
    let w = test_ok _ _ _ bytes h in
    let all : (list_all p (take e ps) && list_all p (drop e ps)) ≡ true = sym (list_all-append p (take e ps) (drop e ps)) ∙ ap (list_all p) (take-append-drop e ps) ∙ w.0 in
    let front = both (list_all p (take e ps)) (list_all p (drop e ps)) all in
    rw front (ap Ok (sym (take-map (slice_index file) e ps) ∙ ap (take e) w.1))

paged_front : (file : List ℕ) (P used : ℕ) (pages : List ℕ) (e s : ℕ) (bytes : List ℕ) → 0 < P → e ≤ s → paged file P used pages s ≡ Ok bytes → paged file P used (take (div_ceil e P) pages) e ≡ Ok (take e bytes)
unfolding paged
paged_front file P used pages e s bytes pos le h =
    let (ps, et, eb) = bind_ok (tested P used pages s) (bytes_of_places file) bytes h in
    let f = tested_front P used pages e s ps pos le et in
    rw f (bytes_front file ps bytes e eb)

take_min : (limit s : ℕ) (bytes : List ℕ) → length bytes ≡ s → take (min limit s) bytes ≡ take limit bytes
take_min limit s bytes e = elim (cases_lt s limit) [
  | inl h ↦ (let m : min limit s ≡ s = omega arith in rw (m, take_all s bytes (omega arith), take_all limit bytes (omega arith)) refl)
  | inr h ↦ (let m : min limit s ≡ limit = omega arith in rw m refl)
]

pub front_begins : (file : List ℕ) (n limit : ℕ) (bytes : List ℕ) → stream_of file n None ≡ Ok bytes → stream_of file n (Some limit) ≡ Ok (take limit bytes)
unfolding stream_of front_of
front_begins file n limit bytes h =
    let (o, eo, e1) = bind_ok (open_of file) _ bytes h in
    let (size, es, e2) = bind_ok (size_of o.directory n) _ bytes e1 in
    let (pages, ep, e3) = bind_ok _ _ bytes e2 in
    let pos = open-positive file o eo in
    let le : min limit size ≤ size = omega arith in
    let fp = pages_front o.directory o.page_size n (min limit size) size pages pos le ep in
    let fb = paged_front file o.page_size o.pages_used pages (min limit size) size bytes pos le e3 in
    let len = paged-length file o.page_size o.pages_used pages size bytes e3 in
    rw (eo, es, fp, fb) (ap Ok (take_min limit size bytes len))

-- ---- a bad number in the front

bytes-no_page : (file ps : List ℕ) (page : ℕ) → bytes_of_places file ps ≡ Err (PageReferenceOutOfRange page) → ⊥
unfolding bytes_of_places
bytes-no_page file ps page h = by_test (list_all (λ p. nat_lt p (length file)) ps) (map (slice_index file) ps) h
  where
    by_test : (b : Bool) (x : List ℕ) → cond b (Ok x) (Err UnexpectedEof) ≡ Err (PageReferenceOutOfRange page) → ⊥
    by_test true x e = cc
    by_test false x e = cc

tested_refused : (file : List ℕ) (t : Result (List ℕ) Error) (page : ℕ) → (t >>= bytes_of_places file) ≡ Err (PageReferenceOutOfRange page) → t ≡ Err (PageReferenceOutOfRange page)
tested_refused file (Ok ps) page h = absurd (bytes-no_page file ps page h)
tested_refused file (Err d) page h = cc

paged_refused : (file : List ℕ) (P used : ℕ) (pages : List ℕ) (e s page : ℕ) → paged file P used (take (div_ceil e P) pages) e ≡ Err (PageReferenceOutOfRange page) → paged file P used pages s ≡ Err (PageReferenceOutOfRange page)
unfolding paged tested
paged_refused file P used pages e s page h =
    let t = tested_refused file _ page h in
    let f = unless_err _ _ page t in
    rw (found_some (λ page. not (is_page used page)) (div_ceil e P) pages page f) refl

pub front_refuses : (file : List ℕ) (n limit page : ℕ) (pages : List ℕ) → page_numbers_of file n ≡ Ok pages → stream_of file n (Some limit) ≡ Err (PageReferenceOutOfRange page) → stream_of file n None ≡ Err (PageReferenceOutOfRange page)
unfolding stream_of front_of page_numbers_of
front_refuses file n limit page pages there h =
    let (o, eo, e1) = bind_ok (open_of file) _ pages there in
    let (size, es, ep) = bind_ok (size_of o.directory n) _ pages e1 in
    let pos = open-positive file o eo in
    let le : min limit size ≤ size = omega arith in
    let fp = pages_front o.directory o.page_size n (min limit size) size pages pos le ep in
    let bad = rw (eo, es, fp) at h in
    rw (eo, es, ep) (paged_refused file o.page_size o.pages_used pages (min limit size) size page bad)
