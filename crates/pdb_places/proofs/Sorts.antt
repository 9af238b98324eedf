-- Ranges that are sorted and then in order give what they gave as they were listed.
use Rattle.std.proofs.Common.{◌≡◌, ◌==◌, ℕ, zero, suc, ◌+◌, ◌-◌, ◌*◌, ◌^◌, ◌<◌, ◌≤◌, ◌⊎◌, inl, inr, Bool, true, false, cond, List, [], ◌∷◌, length, get_or, filter, Option, Some, None, refl, sym, ap, subst, not, ◌∙◌, arith}
use Rattle.std.specs.Prelude.{All, min}
use Rattle.std.specs.List.Sorted.{IsPermutation, ties}
use Rattle.std.specs.Ordering.{is_lt, nat_cmp}
use Rattle.std.proofs.lemmas.Bool.{eq-eqb, ne_eqb, cases_lt, ltb-true, lt-ltb}
use Rattle.std.proofs.lemmas.Bool.Decides.{nat_tests}
use Rattle.std.proofs.lemmas.List.{get_or_default}
use Rattle.std.proofs.lemmas.List.Elements.{All-head, All-tail, All-filter, All-weaker, filter_passes, filter_agree}
use Rattle.std.proofs.lemmas.List.Sorted.{All-permutation, IsPermutation-sym, length_permutation}
use Rattle.std.proofs.lemmas.List.Filters.{length-filter_both}
use Rattle.pdb.specs.PdbInternalSectionOffset.{PdbInternalSectionOffset}
use Rattle.pdb_places.specs.declared.range.CodeRange.{CodeRange}
use Rattle.pdb_places.specs.RangeOrder.{start_of, end_of, Same, Goes, InOrder}
use Rattle.pdb_places.specs.Covering.{Covers, Apart, AreApart, covers, first_covering}
use Rattle.pdb_places.specs.Sorting.{has_bytes, IsSortOf}
use Rattle.pdb_places.proofs.Coverings.{never, is_covered, covered_is, between, start_below, same_start, same_covers, same_sym}

-- ---- the first that covers a place is the first of those that do

abbrev first_payload : List CodeRange → Option ℕ
first_payload [] = None
first_payload (r ∷ rs) = Some r.payload

payload_by : (r : CodeRange) (rs : List CodeRange) (o : Option ℕ) (b : Bool) → o ≡ first_payload rs → cond b (Some r.payload) o ≡ first_payload (cond b (r ∷ rs) rs)
payload_by r rs o true e = refl
payload_by r rs o false e = e

first_is : (q : PdbInternalSectionOffset) (rs : List CodeRange) → first_covering q rs ≡ first_payload (filter (covers q) rs)
first_is q [] = refl
first_is q (r ∷ rs) = payload_by r (filter (covers q) rs) (first_covering q rs) (covers q r) (first_is q rs)

-- ---- those without bytes cover nothing

nothing_covers : (q : PdbInternalSectionOffset) (r : CodeRange) → has_bytes r ≡ false → covers q r ≡ false
nothing_covers q r h = never (covers q r) (λ e.
    let c = is_covered q r e in let f = c.from in let b = c.before in
    let t : has_bytes r ≡ true = lt-ltb 0 r.length (omega arith) in
    absurd cc)

left_out : (q : PdbInternalSectionOffset) (r : CodeRange) (rs : List CodeRange) (b : Bool) → has_bytes r ≡ b → first_covering q (filter has_bytes rs) ≡ first_covering q rs → first_covering q (cond b (r ∷ filter has_bytes rs) (filter has_bytes rs)) ≡ first_covering q (r ∷ rs)
left_out q r rs true h e = ap (λ (o : Option ℕ). cond (covers q r) (Some r.payload) o) e
left_out q r rs false h e = e ∙ sym (ap (λ (b : Bool). cond b (Some r.payload) (first_covering q rs)) (nothing_covers q r h))

pub with_bytes_covering : (q : PdbInternalSectionOffset) (rs : List CodeRange) → first_covering q (filter has_bytes rs) ≡ first_covering q rs
with_bytes_covering q [] = refl
with_bytes_covering q (r ∷ rs) = left_out q r rs (has_bytes r) refl (with_bytes_covering q rs)

-- ---- filters that agree on a list

filter_same : {X : Type 0} (p t : X → Bool) (xs : List X) → All (λ x. p x ≡ t x) xs → filter p xs ≡ filter t xs
filter_same p t [] h = refl
filter_same p t (x ∷ xs) h =
    ap (λ (b : Bool). cond b (x ∷ filter p xs) (filter p xs)) (All-head (λ x. p x ≡ t x) x xs h)
    ∙ ap (λ (l : List _). cond (t x) (x ∷ l) l) (filter_same p t xs (All-tail (λ x. p x ≡ t x) x xs h))

filter_none : {X : Type 0} (p : X → Bool) (xs : List X) → All (λ x. p x ≡ false) xs → filter p xs ≡ []
filter_none p [] h = refl
filter_none p (x ∷ xs) h =
    ap (λ (b : Bool). cond b (x ∷ filter p xs) (filter p xs)) (All-head (λ x. p x ≡ false) x xs h) ∙ filter_none p xs (All-tail (λ x. p x ≡ false) x xs h)

-- ---- either one covers the place, or none does

abbrev SomeCovers : PdbInternalSectionOffset → List CodeRange → Type 0
SomeCovers q rs = (k : ℕ) × (r : CodeRange) × (k < length rs) × (get_or rs k r ≡ r) × (covers q r ≡ true)

abbrev NoneCovers : PdbInternalSectionOffset → List CodeRange → Type 0
NoneCovers q rs = All (λ r. covers q r ≡ false) rs

some_or_none_by : (q : PdbInternalSectionOffset) (r : CodeRange) (rs : List CodeRange) (b : Bool) → covers q r ≡ b → SomeCovers q rs ⊎ NoneCovers q rs → SomeCovers q (r ∷ rs) ⊎ NoneCovers q (r ∷ rs)
some_or_none_by q r rs true e rest = inl (0, r, omega arith, refl, e)
some_or_none_by q r rs false e (inl s) = inl (suc s.0, s.1, (let l = s.2 in omega arith), s.3, s.4)
some_or_none_by q r rs false e (inr n) = inr (none_cons n)
  where
    none_cons : NoneCovers q rs → NoneCovers q (r ∷ rs)
    none_cons n zero d l = e
    none_cons n (suc k) d l = n k d (omega arith)

some_or_none : (q : PdbInternalSectionOffset) (rs : List CodeRange) → SomeCovers q rs ⊎ NoneCovers q rs
some_or_none q [] = inr (λ k d l. absurd (omega arith))
some_or_none q (r ∷ rs) = some_or_none_by q r rs (covers q r) refl (some_or_none q rs)

-- ---- where one covers the place, those at its start cover it, and no others do

abbrev at_start : CodeRange → CodeRange → Bool
at_start d x = start_of x == start_of d

-- where a place is among those of all sections, no further than its section's last byte
abbrev at_place : PdbInternalSectionOffset → ℕ
at_place q = q.section * 2 ^ 32 + min q.offset (2 ^ 32 - 1)

covers_at : (q : PdbInternalSectionOffset) (r : CodeRange) → covers q r ≡ true → (start_of r ≤ at_place q) × (at_place q < end_of r)
covers_at q r e =
    let c = is_covered q r e in let s = c.section in let f = c.from in let b = c.before in let fits = r.fits in
    (omega arith, omega arith)

goes_before : (q : PdbInternalSectionOffset) (d x : CodeRange) → covers q d ≡ true → Goes d x → covers q x ≡ at_start d x
goes_before q d x c (inl s) = covered_is q x (same_covers q d x s (is_covered q d c)) ∙ sym (eq-eqb (start_of x) (start_of d) (sym (same_start d x s)))
goes_before q d x c (inr e) =
    let b = covers_at q d c in let from = b.0 in let before = b.1 in
    never (covers q x) (λ k. let t = covers_at q x k in let u = t.0 in absurd (omega arith))
    ∙ sym (ne_eqb (start_of x) (start_of d) (λ same. absurd (omega arith)))

goes_behind : (q : PdbInternalSectionOffset) (d x : CodeRange) → covers q d ≡ true → has_bytes x ≡ true → Goes x d → covers q x ≡ at_start d x
goes_behind q d x c h (inl s) = covered_is q x (same_covers q d x (same_sym x d s) (is_covered q d c)) ∙ sym (eq-eqb (start_of x) (start_of d) (same_start x d s))
goes_behind q d x c h (inr e) =
    let b = covers_at q d c in let from = b.0 in let before = b.1 in
    let bytes = start_below x (ltb-true 0 x.length h) in
    never (covers q x) (λ k. let t = covers_at q x k in let u = t.1 in absurd (omega arith))
    ∙ sym (ne_eqb (start_of x) (start_of d) (λ same. absurd (omega arith)))

abbrev HaveBytes : List CodeRange → Type 0
HaveBytes rs = All (λ r. has_bytes r ≡ true) rs

agree : (q : PdbInternalSectionOffset) (ss : List CodeRange) (j : ℕ) (d : CodeRange) → j < length ss → get_or ss j d ≡ d → covers q d ≡ true → HaveBytes ss → InOrder ss → All (λ x. covers q x ≡ at_start d x) ss
agree q ss j d there is c bytes order k e l =
    let d_is : get_or ss j e ≡ d = get_or_default ss j e d there ∙ is in
    elim (cases_lt k j) [
      | inl before ↦ goes_behind q d (get_or ss k e) c (bytes k e l) (subst (Goes (get_or ss k e)) d_is (order.go k j e before there))
      | inr from ↦ elim (cases_lt j k) [
        | inl behind ↦ goes_before q d (get_or ss k e) c (subst (λ (x : CodeRange). Goes x (get_or ss k e)) d_is (order.go j k e behind l))
        | inr upto ↦ (let same : k ≡ j = omega arith in
            let x_is : get_or ss k e ≡ d = ap (λ (n : ℕ). get_or ss n e) same ∙ d_is in
            ap (covers q) x_is ∙ (c ∙ (sym (eq-eqb (start_of d) (start_of d) refl) ∙ ap (at_start d) (sym x_is))))
      ]
    ]

ties_are : (d x : CodeRange) → ties (λ a b. is_lt (nat_cmp (start_of a) (start_of b))) d x ≡ at_start d x
ties_are d x = ties_of (start_of d) (start_of x)
  where
    ties_of : (m n : ℕ) → ties (λ a b. is_lt (nat_cmp a b)) m n ≡ (n == m)
    ties_of m n = grind (arith, nat_tests)

stable_at : (xs ys : List CodeRange) → IsSortOf xs ys → (d : CodeRange) → filter (at_start d) ys ≡ filter (at_start d) xs
stable_at xs ys s d =
    let tie = ties (λ a b. is_lt (nat_cmp (start_of a) (start_of b))) d in
    filter_agree (at_start d) tie (λ x. sym (ties_are d x)) ys ∙ (s.stable d ∙ filter_agree tie (at_start d) (ties_are d) xs)

same_filter : (q : PdbInternalSectionOffset) (xs ys : List CodeRange) → IsSortOf xs ys → HaveBytes ys → InOrder ys → SomeCovers q ys ⊎ NoneCovers q ys → filter (covers q) ys ≡ filter (covers q) xs
same_filter q xs ys s bytes order (inl (j, d, there, is, c)) =
    let agrees = agree q ys j d there is c bytes order in
    filter_same (covers q) (at_start d) ys agrees
    ∙ (stable_at xs ys s d
    ∙ sym (filter_same (covers q) (at_start d) xs (All-permutation (λ x. covers q x ≡ at_start d x) ys xs (IsPermutation-sym xs ys s.all) agrees)))
same_filter q xs ys s bytes order (inr n) =
    filter_none (covers q) ys n ∙ sym (filter_none (covers q) xs (All-permutation (λ r. covers q r ≡ false) ys xs (IsPermutation-sym xs ys s.all) n))

sorted_covering : (q : PdbInternalSectionOffset) (xs ys : List CodeRange) → IsSortOf xs ys → HaveBytes ys → InOrder ys → first_covering q ys ≡ first_covering q xs
sorted_covering q xs ys s bytes order =
    first_is q ys ∙ (ap first_payload (same_filter q xs ys s bytes order (some_or_none q ys)) ∙ sym (first_is q xs))

-- ---- where any two have the same bytes, or none in common, the sort puts them in order

itself : (r : CodeRange) → has_bytes r ≡ true → Covers r.place r
itself r h = let b = ltb-true 0 r.length h in record { section = refl; from = omega arith; before = omega arith }

ends_before : (r s : CodeRange) → start_of r ≤ start_of s → has_bytes s ≡ true → Apart r s → end_of r ≤ start_of s
ends_before r s rises h apart = elim (cases_lt (start_of s) (end_of r)) [
  | inl inside ↦ absurd (apart s.place (between s.place r s.fits rises inside) (itself s h))
  | inr outside ↦ outside
]

goes_of : (r s : CodeRange) → start_of r ≤ start_of s → has_bytes s ≡ true → Same r s ⊎ Apart r s → Goes r s
goes_of r s rises h (inl same) = inl same
goes_of r s rises h (inr apart) = inr (ends_before r s rises h apart)

abbrev Either : CodeRange → CodeRange → Type 0
Either r s = Same r s ⊎ Apart r s

apart_filter : (p : CodeRange → Bool) (rs : List CodeRange) → AreApart rs → AreApart (filter p rs)
apart_filter p rs h =
    All-filter p (λ r. All (Either r) (filter p rs)) rs (All-weaker (λ r. All (Either r) rs) (λ r. All (Either r) (filter p rs)) (λ r. All-filter p (Either r) rs) rs h)

apart_permutation : (xs ys : List CodeRange) → IsPermutation xs ys → AreApart xs → AreApart ys
apart_permutation xs ys p h =
    All-permutation (λ r. All (Either r) ys) xs ys p (All-weaker (λ r. All (Either r) xs) (λ r. All (Either r) ys) (λ r. All-permutation (Either r) xs ys p) xs h)

pub few_pass : (p : CodeRange → Bool) (rs : List CodeRange) → length (filter p rs) ≤ length rs
few_pass p rs = let n = length-filter_both p (λ r. not (p r)) (λ r. refl) rs in omega arith

-- ---- the ranges of some rows that have bytes, sorted

module _ (rows ys : List CodeRange) (s : IsSortOf (filter has_bytes rows) ys) where
  bytes : HaveBytes ys
  bytes = All-permutation (λ r. has_bytes r ≡ true) (filter has_bytes rows) ys s.all (filter_passes has_bytes rows)

  pub sorted_same : InOrder ys → (q : PdbInternalSectionOffset) → first_covering q ys ≡ first_covering q rows
  sorted_same order q = sorted_covering q (filter has_bytes rows) ys s bytes order ∙ with_bytes_covering q rows

  pub sorted_apart : AreApart rows → InOrder ys
  sorted_apart h = record {
    go = λ j k d l m.
        goes_of (get_or ys j d) (get_or ys k d) (s.rises j k d (omega arith) m) (bytes k d m)
        (apart_permutation (filter has_bytes rows) ys s.all (apart_filter has_bytes rows h) j d (omega arith) k d m);
  }

  pub sorted_few : length ys ≤ length rows
  sorted_few = let n = length_permutation (filter has_bytes rows) ys s.all in let m = few_pass has_bytes rows in omega arith
