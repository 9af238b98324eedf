-- The first inlined function of each id: a stable sort by the ids keeps it, and halving finds it.
use Rattle.std.proofs.Common.{◌≡◌, ◌==◌, ℕ, zero, suc, ◌<◌, ◌≤◌, List, [], ◌∷◌, length, get_or, filter, find, Option, Some, None, Bool, true, false, cond, refl, sym, ap, ◌∙◌, arith}
use Rattle.std.proofs.Math.Path.{fun_ext}
use Rattle.std.proofs.lemmas.Bool.{eq-eqb, ne_eqb, ltb-true, ltb-false}
use Rattle.std.proofs.lemmas.Bool.Decides.{nat_tests}
use Rattle.std.proofs.lemmas.List.Sorted.{IsPartitionedBy-ltb}
use Rattle.std.specs.Prelude.{nat_lt}
use Rattle.std.specs.List.Sorted.{IsNonDecreasingBy, IsPartitionPoint, IsPartitionedBy, IsStableByKey, ties}
use Rattle.std.specs.Ordering.{is_lt, nat_cmp}
use Rattle.pdb_modules.specs.Inlinees.{InlineeEntry, inlinee_with}

abbrev pub id_of : InlineeEntry → ℕ
id_of x = x.index

-- ---- what is found is the first of those that pass

abbrev first : {X : Type 0} → List X → Option X
first [] = None
first (x ∷ xs) = Some x

found_by : {X : Type 0} (p : X → Bool) (x : X) (xs : List X) (b : Bool) → find p xs ≡ first (filter p xs) → cond b (Some x) (find p xs) ≡ first (cond b (x ∷ filter p xs) (filter p xs))
found_by p x xs true h = refl
found_by p x xs false h = h

found_first : {X : Type 0} (p : X → Bool) (xs : List X) → find p xs ≡ first (filter p xs)
found_first p [] = refl
found_first p (x ∷ xs) = found_by p x xs (p x) (found_first p xs)

find_ext : {X : Type 0} (p q : X → Bool) → ((x : X) → p x ≡ q x) → (xs : List X) → find p xs ≡ find q xs
find_ext p q h [] = refl
find_ext p q h (x ∷ xs) = ap (λ (b : Bool). cond b (Some x) (find p xs)) (h x) ∙ ap (λ (r : Option _). cond (q x) (Some x) r) (find_ext p q h xs)

-- ---- a stable sort keeps the first of each id

same_id : (x y : InlineeEntry) → ties (λ a b. is_lt (nat_cmp (id_of a) (id_of b))) x y ≡ (id_of y == id_of x)
same_id x y = grind (arith, nat_tests)

abbrev at_id : ℕ → InlineeEntry
at_id id = record { index = id; file_index = 0; line = 0; extra_files = [] }

pub sorted_first : (xs ys : List InlineeEntry) → IsStableByKey id_of nat_cmp xs ys → inlinee_with ys ≡ inlinee_with xs
sorted_first xs ys stable = fun_ext (λ id.
    let tie = ties (λ a b. is_lt (nat_cmp (id_of a) (id_of b))) (at_id id) in
    find_ext (λ y. id_of y == id) tie (λ y. sym (same_id (at_id id) y)) ys
    ∙ found_first tie ys ∙ ap first (stable (at_id id)) ∙ sym (found_first tie xs)
    ∙ find_ext tie (λ y. id_of y == id) (same_id (at_id id)) xs)

-- ---- at the first place of an id that isn't less stands its function, if there is one

none_with : (id : ℕ) (xs : List InlineeEntry) → ((k : ℕ) (d : InlineeEntry) → k < length xs → id < id_of (get_or xs k d)) → inlinee_with xs id ≡ None
none_with id [] above = refl
none_with id (x ∷ xs) above =
    let a = above 0 x (omega arith) in
    ap (λ (b : Bool). cond b (Some x) (inlinee_with xs id)) (ne_eqb (id_of x) id (λ e. absurd (omega arith)))
    ∙ none_with id xs (λ k d l. above (suc k) d (omega arith))

-- what halving found
pub record IsAt (id : ℕ) (xs : List InlineeEntry) (at : ℕ) : Type 0 where
  pub below : (k : ℕ) (d : InlineeEntry) → k < at → id_of (get_or xs k d) < id
  pub from : (k : ℕ) (d : InlineeEntry) → at ≤ k → k < length xs → id ≤ id_of (get_or xs k d)
  pub up : IsNonDecreasingBy id_of xs

tail : (id : ℕ) (x : InlineeEntry) (xs : List InlineeEntry) (at : ℕ) → IsAt id (x ∷ xs) (suc at) → IsAt id xs at
tail id x xs at h = record {
  below = λ k d l. h.below (suc k) d (omega arith);
  from = λ k d l m. h.from (suc k) d (omega arith) (omega arith);
  up = λ i j d l m. h.up (suc i) (suc j) d (omega arith) (omega arith);
}

-- none, where nothing stands there
pub none_there : (id : ℕ) (xs : List InlineeEntry) (at : ℕ) → IsAt id xs at → length xs ≤ at → inlinee_with xs id ≡ None
none_there id [] at h l = refl
none_there id (x ∷ xs) zero h l = absurd (omega arith)
none_there id (x ∷ xs) (suc at) h l =
    let b = h.below 0 x (omega arith) in
    ap (λ (b : Bool). cond b (Some x) (inlinee_with xs id)) (ne_eqb (id_of x) id (λ e. absurd (omega arith)))
    ∙ none_there id xs at (tail id x xs at h) (omega arith)

is_above : (a b : ℕ) → a ≤ b → (a ≡ b → ⊥) → a < b
is_above a b l n = by_test (nat_lt a b) refl
  where
    by_test : (t : Bool) → nat_lt a b ≡ t → a < b
    by_test true e = ltb-true a b e
    by_test false e = let m = ltb-false a b e in absurd (n (omega arith))

pub none_other : (id : ℕ) (xs : List InlineeEntry) (at : ℕ) (y : InlineeEntry) → IsAt id xs at → at < length xs → get_or xs at y ≡ y → (id_of y ≡ id → ⊥) → inlinee_with xs id ≡ None
none_other id [] at y h l e n = absurd (omega arith)
none_other id (x ∷ xs) zero y h l e n =
    let f = h.from 0 x (omega arith) (omega arith) in
    let s : id_of x ≡ id_of y = ap id_of e in
    let above = is_above id (id_of x) f (λ same. n (sym s ∙ sym same)) in
    none_with id (x ∷ xs) (λ k d m. let u = h.up 0 k d (omega arith) m in omega arith)
none_other id (x ∷ xs) (suc at) y h l e n =
    let b = h.below 0 x (omega arith) in
    ap (λ (b : Bool). cond b (Some x) (inlinee_with xs id)) (ne_eqb (id_of x) id (λ e. absurd (omega arith)))
    ∙ none_other id xs at y (tail id x xs at h) (omega arith) e n

pub found_there : (id : ℕ) (xs : List InlineeEntry) (at : ℕ) (y : InlineeEntry) → IsAt id xs at → at < length xs → get_or xs at y ≡ y → id_of y ≡ id → inlinee_with xs id ≡ Some y
found_there id [] at y h l e n = absurd (omega arith)
found_there id (x ∷ xs) zero y h l e n = rw e (ap (λ (b : Bool). cond b (Some y) (inlinee_with xs id)) (eq-eqb (id_of y) id n))
found_there id (x ∷ xs) (suc at) y h l e n =
    let b = h.below 0 x (omega arith) in
    ap (λ (b : Bool). cond b (Some x) (inlinee_with xs id)) (ne_eqb (id_of x) id (λ e. absurd (omega arith)))
    ∙ found_there id xs at y (tail id x xs at h) (omega arith) e n

abbrev pub less : ℕ → InlineeEntry → Bool
less id x = nat_lt (id_of x) id

pub is_at : (id : ℕ) (items xs : List InlineeEntry) (at : ℕ) → IsNonDecreasingBy id_of items → xs ≡ items → (IsPartitionedBy (less id) xs → IsPartitionPoint (λ x. less id x ≡ true) (λ x. less id x ≡ false) xs at) → IsAt id xs at
is_at id items xs at rises same by_point =
    let up : IsNonDecreasingBy id_of xs = rw same rises in
    let point = by_point (IsPartitionedBy-ltb id_of xs id up) in record {
      below = λ k d l. ltb-true (id_of (get_or xs k d)) id (point.0 k d (omega arith) l);
      from = λ k d l m. ltb-false (id_of (get_or xs k d)) id (point.1 k d l m);
      up = up;
    }
