-- The first of those with a key: a stable sort by the keys keeps it, and halving finds it.
use Rattle.std.proofs.Common.{◌≡◌, ℕ, zero, suc, ◌<◌, ◌≤◌, ◌⊎◌, inl, inr, List, [], ◌∷◌, length, get_or, filter, find, Option, Some, None, Bool, true, false, cond, not, refl, sym, ap, subst, ◌∙◌, arith}
use Rattle.std.specs.Prelude.{◌&&◌, All}
use Rattle.std.specs.Cmp.Lexicographic.{slice_cmp, nat_list_cmp_total}
use Rattle.std.specs.Ordering.{is_lt, is_eq, nat_cmp, ordering_index, ordering_reverse}
use Rattle.std.specs.declared.cmp.Ordering.{Ordering}
use Rattle.std.specs.declared.cmp.Ordering.TheVariants.{Less, Equal, Greater}
use Rattle.std.specs.List.Sorted.{IsNonDecreasingBy, IsPartitionPoint, IsPartitionedBy, IsPermutation, IsSortedBy, IsStableBy, ties}
use Rattle.std.proofs.lemmas.List.Elements.{filter_agree}
use Rattle.std.proofs.lemmas.List.Sorted.{All-permutation, searchable_from_sorted}
use Rattle.std.proofs.lemmas.Map.Lookups.{exact_bytes}
use Rattle.std.proofs.lemmas.Bool.{cases_lt}
use Rattle.std.proofs.lemmas.List.{get_or_default}

abbrev order : List ℕ → List ℕ → Ordering
order a b = slice_cmp nat_cmp a b

-- ---- what is found is the first of those that pass

abbrev first : {X : Type 0} → List X → Option X
first [] = None
first (x ∷ xs) = Some x

found_by : {X : Type 0} (p : X → Bool) (x : X) (xs : List X) (b : Bool) → find p xs ≡ first (filter p xs) → cond b (Some x) (find p xs) ≡ first (cond b (x ∷ filter p xs) (filter p xs))
found_by p x xs true h = refl
found_by p x xs false h = h

found_first : {X : Type 0} (p : X → Bool) (xs : List X) → find p xs ≡ first (filter p xs)
found_first p [] = refl
found_first p (x ∷ xs) = found_by p x xs (p x) (found_first p xs)

filter_none : {X : Type 0} (p : X → Bool) (xs : List X) → All (λ x. p x ≡ false) xs → filter p xs ≡ []
filter_none p [] h = refl
filter_none p (x ∷ xs) h =
    ap (λ (b : Bool). cond b (x ∷ filter p xs) (filter p xs)) (h 0 x (omega arith)) ∙ filter_none p xs (λ k d l. h (suc k) d (omega arith))

find_none : {X : Type 0} (p : X → Bool) (xs : List X) → All (λ x. p x ≡ false) xs → find p xs ≡ None
find_none p xs h = found_first p xs ∙ ap first (filter_none p xs h)

find_here : {X : Type 0} (p : X → Bool) (xs : List X) (at : ℕ) (y : X) → ((k : ℕ) (d : X) → k < at → p (get_or xs k d) ≡ false) → at < length xs → get_or xs at y ≡ y → p y ≡ true → find p xs ≡ Some y
find_here p [] at y before l is h = absurd (omega arith)
find_here p (x ∷ xs) zero y before l is h = rw is (ap (λ (b : Bool). cond b (Some y) (find p xs)) h)
find_here p (x ∷ xs) (suc at) y before l is h =
    ap (λ (b : Bool). cond b (Some x) (find p xs)) (before 0 x (omega arith)) ∙ find_here p xs at y (λ k d m. before (suc k) d (omega arith)) (omega arith) is h

-- ---- either one passes, or none does

abbrev SomePass : {X : Type 0} → (X → Bool) → Type 0
SomePass {X} p = (x : X) × (p x ≡ true)

none_more : {X : Type 0} (p : X → Bool) (x : X) (xs : List X) → p x ≡ false → All (λ x. p x ≡ false) xs → All (λ x. p x ≡ false) (x ∷ xs)
none_more p x xs e n zero d l = e
none_more p x xs e n (suc k) d l = n k d (omega arith)

one_or_none : {X : Type 0} (p : X → Bool) (x : X) (xs : List X) (b : Bool) → p x ≡ b → SomePass p ⊎ All (λ x. p x ≡ false) xs → SomePass p ⊎ All (λ x. p x ≡ false) (x ∷ xs)
one_or_none p x xs true e rest = inl (x, e)
one_or_none p x xs false e (inl s) = inl s
one_or_none p x xs false e (inr n) = inr (none_more p x xs e n)

some_or_none : {X : Type 0} (p : X → Bool) (xs : List X) → SomePass p ⊎ All (λ x. p x ≡ false) xs
some_or_none p [] = inr (λ k d l. absurd (omega arith))
some_or_none p (x ∷ xs) = one_or_none p x xs (p x) refl (some_or_none p xs)

-- ---- orders

equal_is : (o : Ordering) → is_eq o ≡ true → o ≡ Equal
equal_is Less e = absurd cc
equal_is Equal e = refl
equal_is Greater e = absurd cc

tied : (o : Ordering) → is_eq o ≡ (not (is_lt (ordering_reverse o)) && not (is_lt o))
tied Less = refl
tied Equal = refl
tied Greater = refl

less_is_0 : (o : Ordering) → is_lt o ≡ true → ordering_index o ≡ 0
less_is_0 Less e = refl
less_is_0 Equal e = absurd cc
less_is_0 Greater e = absurd cc

zero_is_less : (o : Ordering) → ordering_index o ≤ 0 → is_lt o ≡ true
zero_is_less Less l = refl
zero_is_less Equal l = absurd (omega arith)
zero_is_less Greater l = absurd (omega arith)

less_no_equal : (o : Ordering) → is_lt o ≡ true → is_eq o ≡ false
less_no_equal Less e = refl
less_no_equal Equal e = absurd cc
less_no_equal Greater e = absurd cc

greater_is_2 : (o : Ordering) → is_lt o ≡ false → is_eq o ≡ false → 2 ≤ ordering_index o
greater_is_2 Less e f = absurd cc
greater_is_2 Equal e f = absurd cc
greater_is_2 Greater e f = omega arith

two_no_equal : (o : Ordering) → 2 ≤ ordering_index o → is_eq o ≡ false
two_no_equal Less l = absurd (omega arith)
two_no_equal Equal l = absurd (omega arith)
two_no_equal Greater l = refl

module _ {X : Type 0} (key : X → List ℕ) where
  abbrev pub known : List ℕ → X → Bool
  known k x = is_eq (order (key x) k)

  abbrev pub before : X → X → Bool
  before a b = is_lt (order (key a) (key b))

  -- ---- a stable sort keeps the first

  tie_of : (x y : X) → known (key x) y ≡ ties before x y
  tie_of x y =
      tied (order (key y) (key x))
      ∙ ap (λ (o : Ordering). not (is_lt o) && not (is_lt (order (key y) (key x)))) (sym (nat_list_cmp_total.antisymm (key x) (key y)))

  kept_by : (k : List ℕ) (xs ys : List X) → IsPermutation xs ys → IsStableBy before xs ys → SomePass (known k) ⊎ All (λ x. known k x ≡ false) xs → filter (known k) ys ≡ filter (known k) xs
  kept_by k xs ys all stable (inl (x, e)) =
      let same : key x ≡ k = exact_bytes (key x) k (equal_is (order (key x) k) e) in
      subst (λ (k : List ℕ). filter (known k) ys ≡ filter (known k) xs) same
      (filter_agree (known (key x)) (ties before x) (tie_of x) ys ∙ stable x ∙ sym (filter_agree (known (key x)) (ties before x) (tie_of x) xs))
  kept_by k xs ys all stable (inr none) =
      filter_none (known k) ys (All-permutation (λ x. known k x ≡ false) xs ys all none) ∙ sym (filter_none (known k) xs none)

  pub kept : (k : List ℕ) (xs ys : List X) → IsPermutation xs ys → IsStableBy before xs ys → find (known k) ys ≡ find (known k) xs
  kept k xs ys all stable = found_first (known k) ys ∙ ap first (kept_by k xs ys all stable (some_or_none (known k) xs)) ∙ sym (found_first (known k) xs)

  -- ---- halving finds the first

  abbrev pub lower : List ℕ → X → Bool
  lower k x = is_lt (order (key x) k)

  rises : (k : List ℕ) (xs : List X) → IsSortedBy before xs → IsNonDecreasingBy (λ y. ordering_index (order (key y) k)) xs
  rises k xs up = searchable_from_sorted nat_list_cmp_total key xs k up

  pub parted : (k : List ℕ) (xs : List X) → IsSortedBy before xs → IsPartitionedBy (lower k) xs
  parted k xs up i j d l m e =
      let r = rises k xs up i j d l m in
      let z = less_is_0 (order (key (get_or xs j d)) k) e in
      zero_is_less (order (key (get_or xs i d)) k) (omega (arith, r, z))

  pub nothing_there : (k : List ℕ) (xs : List X) (at : ℕ) → IsPartitionPoint (λ y. lower k y ≡ true) (λ y. lower k y ≡ false) xs at → length xs ≤ at → find (known k) xs ≡ None
  nothing_there k xs at point l = find_none (known k) xs (λ j d m. less_no_equal (order (key (get_or xs j d)) k) (point.0 j d (omega arith) (omega (arith, l, m))))

  pub found_there : (k : List ℕ) (xs : List X) (at : ℕ) (y : X) → IsPartitionPoint (λ y. lower k y ≡ true) (λ y. lower k y ≡ false) xs at → at < length xs → get_or xs at y ≡ y → known k y ≡ true → find (known k) xs ≡ Some y
  found_there k xs at y point l is e = find_here (known k) xs at y (λ j d m. less_no_equal (order (key (get_or xs j d)) k) (point.0 j d (omega arith) m)) l is e

  pub other_there : (k : List ℕ) (xs : List X) (at : ℕ) (y : X) → IsSortedBy before xs → IsPartitionPoint (λ y. lower k y ≡ true) (λ y. lower k y ≡ false) xs at → at < length xs → get_or xs at y ≡ y → known k y ≡ false → find (known k) xs ≡ None
  other_there k xs at y up point l is e = find_none (known k) xs at_each
    where
      above : 2 ≤ ordering_index (order (key y) k)
      above = greater_is_2 (order (key y) k) (subst (λ (x : X). lower k x ≡ false) is (point.1 at y (omega arith) l)) e

      behind : (j : ℕ) (d : X) → at ≤ j → j < length xs → known k (get_or xs j d) ≡ false
      behind j d m n =
          let r = rises k xs up at j d m n in
          let here : get_or xs at d ≡ y = get_or_default xs at d y l ∙ is in
          let a : 2 ≤ ordering_index (order (key (get_or xs at d)) k) = rw here above in
          two_no_equal (order (key (get_or xs j d)) k) (omega (arith, r, a))

      at_each : All (λ x. known k x ≡ false) xs
      at_each j d n = elim (cases_lt j at) [
        | inl m ↦ less_no_equal (order (key (get_or xs j d)) k) (point.0 j d (omega arith) m)
        | inr m ↦ behind j d m n
      ]
