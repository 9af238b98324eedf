-- There is one stable order by a number, and the sort finds it.
use Rattle.std.proofs.Common.{◌≡◌, ℕ, zero, suc, ◌+◌, ◌<◌, ◌≤◌, Bool, true, false, cond, not, ◌&&◌, List, [], ◌∷◌, map, length, get_or, filter, refl, sym, ap, subst, ◌∙◌, arith}
use Rattle.std.specs.Prelude.{◌==◌, nat_lt, nat_le}
use Rattle.std.specs.Ordering.{is_lt, nat_cmp}
use Rattle.std.specs.List.Sorted.{IsNonDecreasingBy, IsStableByKey, ties}
use Rattle.std.proofs.lemmas.Bool.{eqb-true, leb-true, leb-false, eq-eqb, ne_eqb, ltb-true, ltb-false}
use Rattle.std.specs.declared.cmp.Ordering.TheVariants.{Less, Equal, Greater}
use Rattle.pdb_modules.specs.declared.line_subsection.LineSubsection.{LineSubsection}
use Rattle.pdb_modules.specs.Lines.{Subsection}
use Rattle.pdb_modules.specs.KeptRows.{subsection_of}
use Rattle.pdb_modules.specs.LineOrder.{order_of, InOrder, IsOrdering, put, ordered}

-- ---- filters

filter_ext : {X : Type 0} (p q : X → Bool) → ((x : X) → p x ≡ q x) → (xs : List X) → filter p xs ≡ filter q xs
filter_ext p q h [] = refl
filter_ext p q h (x ∷ xs) =
    ap (λ (b : Bool). cond b (x ∷ filter p xs) (filter p xs)) (h x)
    ∙ ap (λ (l : List _). cond (q x) (x ∷ l) l) (filter_ext p q h xs)

less_by : (a b : Bool) → is_lt (cond a Less (cond b Equal Greater)) ≡ a
less_by true b = refl
less_by false true = refl
less_by false false = refl

less : (x y : ℕ) → is_lt (nat_cmp x y) ≡ nat_lt x y
less x y = less_by (nat_lt x y) (x == y)

module _ {X : Type 0} (n : X → ℕ) where
  abbrev put_by : X → List X → List X
  put_by x [] = x ∷ []
  put_by x (y ∷ ys) = cond (nat_le (n x) (n y)) (x ∷ (y ∷ ys)) (y ∷ put_by x ys)

  abbrev ordered_by : List X → List X
  ordered_by [] = []
  ordered_by (x ∷ xs) = put_by x (ordered_by xs)

  abbrev like : ℕ → List X → List X
  like m xs = filter (λ x. n x == m) xs

  -- ---- the sort by insertion keeps those of one number, and ascends

  -- two of different numbers are not both kept
  swapped : (m : ℕ) (x y : X) (ys : List X) (a b : Bool) → (n x == m) ≡ a → (n y == m) ≡ b → nat_le (n x) (n y) ≡ false → cond b (y ∷ cond a (x ∷ ys) ys) (cond a (x ∷ ys) ys) ≡ cond a (x ∷ cond b (y ∷ ys) ys) (cond b (y ∷ ys) ys)
  swapped m x y ys true true e f h =
      let s = eqb-true (n x) m e in let t = eqb-true (n y) m f in let u = leb-false (n x) (n y) h in absurd (omega arith)
  swapped m x y ys true false e f h = refl
  swapped m x y ys false true e f h = refl
  swapped m x y ys false false e f h = refl

  like_put_by : (m : ℕ) (x y : X) (ys : List X) (b : Bool) → nat_le (n x) (n y) ≡ b → like m (put_by x ys) ≡ like m (x ∷ ys) → like m (cond b (x ∷ (y ∷ ys)) (y ∷ put_by x ys)) ≡ like m (x ∷ (y ∷ ys))
  like_put_by m x y ys true h e = refl
  like_put_by m x y ys false h e =
      ap (λ (l : List X). cond (n y == m) (y ∷ l) l) e ∙ swapped m x y (like m ys) (n x == m) (n y == m) refl refl h

  like_put : (m : ℕ) (x : X) (ys : List X) → like m (put_by x ys) ≡ like m (x ∷ ys)
  like_put m x [] = refl
  like_put m x (y ∷ ys) = like_put_by m x y ys (nat_le (n x) (n y)) refl (like_put m x ys)

  like_ordered : (m : ℕ) (xs : List X) → like m (ordered_by xs) ≡ like m xs
  like_ordered m [] = refl
  like_ordered m (x ∷ xs) = like_put m x (ordered_by xs) ∙ ap (λ (l : List X). cond (n x == m) (x ∷ l) l) (like_ordered m xs)

  abbrev AtLeast : ℕ → List X → Type 0
  AtLeast m xs = (k : ℕ) (d : X) → k < length xs → m ≤ n (get_or xs k d)

  at_least_cons : (m : ℕ) (x : X) (xs : List X) → m ≤ n x → AtLeast m xs → AtLeast m (x ∷ xs)
  at_least_cons m x xs h r zero d l = h
  at_least_cons m x xs h r (suc k) d l = r k d (omega arith)

  at_least_tail : (m : ℕ) (x : X) (xs : List X) → AtLeast m (x ∷ xs) → AtLeast m xs
  at_least_tail m x xs r k d l = r (suc k) d (omega arith)

  at_least_put_by : (m : ℕ) (x y : X) (ys : List X) (b : Bool) → m ≤ n x → AtLeast m (y ∷ ys) → AtLeast m (put_by x ys) → AtLeast m (cond b (x ∷ (y ∷ ys)) (y ∷ put_by x ys))
  at_least_put_by m x y ys true h r s = at_least_cons m x (y ∷ ys) h r
  at_least_put_by m x y ys false h r s = at_least_cons m y (put_by x ys) (r 0 y (omega arith)) s

  at_least_put : (m : ℕ) (x : X) (ys : List X) → m ≤ n x → AtLeast m ys → AtLeast m (put_by x ys)
  at_least_put m x [] h r = at_least_cons m x [] h r
  at_least_put m x (y ∷ ys) h r = at_least_put_by m x y ys (nat_le (n x) (n y)) h r (at_least_put m x ys h (at_least_tail m y ys r))

  up_tail : (x : X) (xs : List X) → IsNonDecreasingBy n (x ∷ xs) → IsNonDecreasingBy n xs
  up_tail x xs u i j d h l = u (suc i) (suc j) d (omega arith) (omega arith)

  up_head : (x : X) (xs : List X) → IsNonDecreasingBy n (x ∷ xs) → AtLeast (n x) xs
  up_head x xs u k d l = u 0 (suc k) d (omega arith) (omega arith)

  up_cons : (x : X) (xs : List X) → AtLeast (n x) xs → IsNonDecreasingBy n xs → IsNonDecreasingBy n (x ∷ xs)
  up_cons x xs a u zero zero d h l = omega arith
  up_cons x xs a u zero (suc j) d h l = a j d (omega arith)
  up_cons x xs a u (suc i) zero d h l = absurd (omega arith)
  up_cons x xs a u (suc i) (suc j) d h l = u i j d (omega arith) (omega arith)

  at_least_more : (m k : ℕ) (xs : List X) → m ≤ k → AtLeast k xs → AtLeast m xs
  at_least_more m k xs h a i d l = let b = a i d l in omega arith

  up_put_by : (x y : X) (ys : List X) (b : Bool) → nat_le (n x) (n y) ≡ b → IsNonDecreasingBy n (y ∷ ys) → IsNonDecreasingBy n (put_by x ys) → IsNonDecreasingBy n (cond b (x ∷ (y ∷ ys)) (y ∷ put_by x ys))
  up_put_by x y ys true h u v =
      let le = leb-true (n x) (n y) h in
      up_cons x (y ∷ ys) (at_least_cons (n x) y ys le (at_least_more (n x) (n y) ys le (up_head y ys u))) u
  up_put_by x y ys false h u v =
      let lt = leb-false (n x) (n y) h in
      up_cons y (put_by x ys) (at_least_put (n y) x ys (omega arith) (up_head y ys u)) v

  up_put : (x : X) (ys : List X) → IsNonDecreasingBy n ys → IsNonDecreasingBy n (put_by x ys)
  up_put x [] u = up_cons x [] (λ k d l. absurd (omega arith)) u
  up_put x (y ∷ ys) u = up_put_by x y ys (nat_le (n x) (n y)) refl u (up_put x ys (up_tail y ys u))

  up_ordered : (xs : List X) → IsNonDecreasingBy n (ordered_by xs)
  up_ordered [] = λ i j d h l. absurd (omega arith)
  up_ordered (x ∷ xs) = up_put x (ordered_by xs) (up_ordered xs)

  -- ---- nothing else does both

  none_like : (m : ℕ) (xs : List X) → AtLeast (m + 1) xs → like m xs ≡ []
  none_like m [] a = refl
  none_like m (x ∷ xs) a =
      let above = a 0 x (omega arith) in
      ap (λ (b : Bool). cond b (x ∷ like m xs) (like m xs)) (ne_eqb (n x) m (λ e. absurd (omega arith))) ∙ none_like m xs (at_least_tail (m + 1) x xs a)

  itself_like : (x : X) (xs : List X) → like (n x) (x ∷ xs) ≡ x ∷ like (n x) xs
  itself_like x xs = ap (λ (b : Bool). cond b (x ∷ like (n x) xs) (like (n x) xs)) (eq-eqb (n x) (n x) refl)

  -- the head of the one is no less than that of the other
  head_below_by : (y z : X) (ys zs : List X) (b : Bool) → nat_lt (n y) (n z) ≡ b → IsNonDecreasingBy n (z ∷ zs) → like (n y) (y ∷ ys) ≡ like (n y) (z ∷ zs) → n z ≤ n y
  head_below_by y z ys zs false h u e = ltb-false (n y) (n z) h
  head_below_by y z ys zs true h u e =
      let lt = ltb-true (n y) (n z) h in
      let above : AtLeast (n y + 1) (z ∷ zs) = at_least_cons (n y + 1) z zs (omega arith) (at_least_more (n y + 1) (n z) zs (omega arith) (up_head z zs u)) in
      let first = itself_like y ys in
      let none = none_like (n y) (z ∷ zs) above in
      absurd cc

  head_below : (y z : X) (ys zs : List X) → IsNonDecreasingBy n (z ∷ zs) → like (n y) (y ∷ ys) ≡ like (n y) (z ∷ zs) → n z ≤ n y
  head_below y z ys zs u e = head_below_by y z ys zs (nat_lt (n y) (n z)) refl u e

  -- what one head leaves, where the other has the same number and is the same
  tails_by : (m : ℕ) (y z : X) (ys zs : List X) (a b : Bool) → a ≡ b → cond a (y ∷ like m ys) (like m ys) ≡ cond b (z ∷ like m zs) (like m zs) → like m ys ≡ like m zs
  tails_by m y z ys zs true true e h = cc
  tails_by m y z ys zs false false e h = h
  tails_by m y z ys zs true false e h = absurd cc
  tails_by m y z ys zs false true e h = absurd cc

  pub one_order : (ys zs : List X) → IsNonDecreasingBy n ys → IsNonDecreasingBy n zs → ((x : X) → like (n x) ys ≡ like (n x) zs) → ys ≡ zs
  one_order [] [] u v same = refl
  one_order [] (z ∷ zs) u v same = let first = itself_like z zs in let e = same z in absurd cc
  one_order (y ∷ ys) [] u v same = let first = itself_like y ys in let e = same y in absurd cc
  one_order (y ∷ ys) (z ∷ zs) u v same =
      let below = head_below y z ys zs v (same y) in
      let above = head_below z y zs ys u (sym (same z)) in
      let number : n y ≡ n z = omega arith in
      let mine = itself_like y ys in
      let other = itself_like z zs in
      let heads : y ∷ like (n y) ys ≡ z ∷ like (n z) zs = sym mine ∙ (same y ∙ (ap (λ (m : ℕ). like m (z ∷ zs)) number ∙ other)) in
      let head : y ≡ z = cc in
      let tails = one_order ys zs (up_tail y ys u) (up_tail z zs v) (λ x. tails_by (n x) y z ys zs (n y == n x) (n z == n x) (ap (λ (k : ℕ). k == n x) number) (same x)) in
      ap (λ (x : X). x ∷ ys) head ∙ ap (λ (l : List X). z ∷ l) tails

  -- ---- what the library's sort says

  ties_by : (x y : X) (a b : Bool) → nat_lt (n x) (n y) ≡ a → nat_lt (n y) (n x) ≡ b → (not a && not b) ≡ (n y == n x)
  ties_by x y true b e f = let h = ltb-true (n x) (n y) e in sym (ne_eqb (n y) (n x) (λ g. absurd (omega arith)))
  ties_by x y false true e f = let h = ltb-true (n y) (n x) f in sym (ne_eqb (n y) (n x) (λ g. absurd (omega arith)))
  ties_by x y false false e f =
      let h = ltb-false (n x) (n y) e in let k = ltb-false (n y) (n x) f in sym (eq-eqb (n y) (n x) (omega arith))

  ties_are : (x y : X) → ties (λ a b. is_lt (nat_cmp (n a) (n b))) x y ≡ (n y == n x)
  ties_are x y =
      ap (λ (b : Bool). not b && not (is_lt (nat_cmp (n y) (n x)))) (less (n x) (n y))
      ∙ (ap (λ (b : Bool). not (nat_lt (n x) (n y)) && not b) (less (n y) (n x))
      ∙ ties_by x y (nat_lt (n x) (n y)) (nat_lt (n y) (n x)) refl refl)

  stable_like : (xs ys : List X) → IsStableByKey n nat_cmp xs ys → (x : X) → like (n x) ys ≡ like (n x) xs
  stable_like xs ys s x =
      let same = ties_are x in
      filter_ext (λ y. n y == n x) (ties (λ a b. is_lt (nat_cmp (n a) (n b))) x) (λ y. sym (same y)) ys
      ∙ (s x ∙ filter_ext (ties (λ a b. is_lt (nat_cmp (n a) (n b))) x) (λ y. n y == n x) same xs)

  pub sorted_by : (xs ys : List X) → IsNonDecreasingBy n ys → IsStableByKey n nat_cmp xs ys → ys ≡ ordered_by xs
  sorted_by xs ys u s = one_order ys (ordered_by xs) u (up_ordered xs) (λ x. stable_like xs ys s x ∙ sym (like_ordered (n x) xs))

-- ---- subsections

abbrev number : Subsection → ℕ
number s = order_of s.place

abbrev pub part_number : LineSubsection → ℕ
part_number part = order_of part.place

put_is : (s : Subsection) (ss : List Subsection) → put s ss ≡ put_by number s ss
put_is s [] = refl
put_is s (t ∷ ss) = ap (λ (l : List Subsection). cond (nat_le (number s) (number t)) (s ∷ (t ∷ ss)) (t ∷ l)) (put_is s ss)

ordered_is : (ss : List Subsection) → ordered ss ≡ ordered_by number ss
unfolding ordered
ordered_is [] = refl
ordered_is (s ∷ ss) = put_is s (ordered ss) ∙ ap (put_by number s) (ordered_is ss)

map_cond : (b : Bool) (xs ys : List LineSubsection) (us vs : List Subsection) → map subsection_of xs ≡ us → map subsection_of ys ≡ vs → map subsection_of (cond b xs ys) ≡ cond b us vs
map_cond true xs ys us vs e f = e
map_cond false xs ys us vs e f = f

map_put : (x : LineSubsection) (ys : List LineSubsection) → map subsection_of (put_by part_number x ys) ≡ put_by number (subsection_of x) (map subsection_of ys)
map_put x [] = refl
map_put x (y ∷ ys) =
    map_cond (nat_le (part_number x) (part_number y)) (x ∷ (y ∷ ys)) (y ∷ put_by part_number x ys) _ _ refl (ap (λ (l : List Subsection). subsection_of y ∷ l) (map_put x ys))

map_ordered : (xs : List LineSubsection) → map subsection_of (ordered_by part_number xs) ≡ ordered_by number (map subsection_of xs)
map_ordered [] = refl
map_ordered (x ∷ xs) = map_put x (ordered_by part_number xs) ∙ ap (put_by number (subsection_of x)) (map_ordered xs)

-- what the sort of parts gives
pub sorted_parts : (xs ys : List LineSubsection) → IsNonDecreasingBy part_number ys → IsStableByKey part_number nat_cmp xs ys → map subsection_of ys ≡ ordered (map subsection_of xs)
sorted_parts xs ys u s =
    ap (map subsection_of) (sorted_by part_number xs ys u s) ∙ (map_ordered xs ∙ sym (ordered_is (map subsection_of xs)))

-- it is the order of the definition, and nothing else is
pub is_ordering : (ss : List Subsection) → IsOrdering ss (ordered ss)
is_ordering ss = subst (IsOrdering ss) (sym (ordered_is ss)) (record { in_order = up_ordered number ss; stable = λ n. like_ordered number n ss })

pub only_ordering : (xs ys : List Subsection) → IsOrdering xs ys → ys ≡ ordered xs
only_ordering xs ys is =
    one_order number ys (ordered_by number xs) is.in_order (up_ordered number xs) (λ s. is.stable (number s) ∙ sym (like_ordered number (number s) xs))
    ∙ sym (ordered_is xs)

pub in_order : (ss : List Subsection) → InOrder (ordered ss)
in_order ss = (is_ordering ss).in_order
