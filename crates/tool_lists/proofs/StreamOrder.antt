-- Things in the order of their numbers: those of one number stand together.
use Rattle.std.proofs.Common.{◌≡◌, ℕ, zero, suc, ◌+◌, ◌<◌, ◌≤◌, List, [], ◌∷◌, Bool, true, false, cond, not, ◌++◌, flat_map, refl, sym, ap, ◌∙◌, arith, drop, take, length, get_or, inl, inr}
use Rattle.std.specs.Prelude.{◌==◌, nat_lt, ◌&&◌}
use Rattle.std.specs.Prelude.{◌⊎◌}
use Rattle.std.specs.List.{filter, prefix_len, range_with_len}
use Rattle.std.proofs.lemmas.List.{drop-drop, flat_map_more}
use Rattle.std.specs.List.Sorted.{IsNonDecreasingBy, IsStableByKey, ties}
use Rattle.std.specs.Ordering.{nat_cmp, is_lt}
use Rattle.std.proofs.Common.{Less, Equal, Greater}
use Rattle.std.proofs.lemmas.Grind.{common_steps}
use Rattle.std.proofs.lemmas.Bool.{and_from, le-leb, ne_eqb}
use Rattle.std.proofs.lemmas.Bool.Decides.{leb_tells, eqb_tells}
use Rattle.tool_lists.specs.StreamOrder.{is_of, rises}

rises_first : {X : Type 0} (key : X → ℕ) (n : ℕ) (x : X) (xs : List X) → rises key n (x ∷ xs) ≡ true → n ≤ key x
rises_first key n x xs h = grind (arith, common_steps, h, leb_tells n (key x))

rises_rest : {X : Type 0} (key : X → ℕ) (n : ℕ) (x : X) (xs : List X) → rises key n (x ∷ xs) ≡ true → rises key (key x) xs ≡ true
rises_rest key n x xs h = grind (arith, common_steps, h, leb_tells n (key x))

-- none is of a number below
pub none_above : {X : Type 0} (key : X → ℕ) (m n : ℕ) (xs : List X) → m < n → rises key n xs ≡ true → filter (is_of key m) xs ≡ []
none_above key m n [] lt h = refl
none_above key m n (x ∷ xs) lt h =
    let first = rises_first key n x xs h in
    let rest = none_above key m (key x) xs (omega (arith, lt, first)) (rises_rest key n x xs h) in
    grind (arith, common_steps, lt, first, rest, eqb_tells (key x) m)

-- those of the least number stand at the front
of_least_by : {X : Type 0} (key : X → ℕ) (n : ℕ) (x : X) (xs : List X) → (rises key n xs ≡ true → filter (is_of key n) xs ≡ take (prefix_len (is_of key n) xs) xs) → rises key n (x ∷ xs) ≡ true
    → ((is_of key n x ≡ true) × (key x ≡ n)) ⊎ ((is_of key n x ≡ false) × (key x ≡ n → ⊥)) → filter (is_of key n) (x ∷ xs) ≡ take (prefix_len (is_of key n) (x ∷ xs)) (x ∷ xs)
of_least_by key n x xs more h (inl t) =
    let one : 1 + prefix_len (is_of key n) xs ≡ suc (prefix_len (is_of key n) xs) = omega arith in
    rw (t.0, one) (ap (λ ys. x ∷ ys) (more (rw t.1 at (rises_rest key n x xs h))))
of_least_by key n x xs more h (inr t) =
    let first = rises_first key n x xs h in
    let no = t.1 in
    rw t.0 (none_above key n (key x) xs (omega (arith, first, no)) (rises_rest key n x xs h))

pub of_least : {X : Type 0} (key : X → ℕ) (n : ℕ) (xs : List X) → rises key n xs ≡ true → filter (is_of key n) xs ≡ take (prefix_len (is_of key n) xs) xs
of_least key n [] h = refl
of_least key n (x ∷ xs) h = of_least_by key n x xs (of_least key n xs) h (eqb_tells (key x) n)

-- and those behind are of greater ones
rises_behind_by : {X : Type 0} (key : X → ℕ) (n : ℕ) (x : X) (xs : List X) → (rises key n xs ≡ true → rises key (n + 1) (drop (prefix_len (is_of key n) xs) xs) ≡ true) → rises key n (x ∷ xs) ≡ true
    → ((is_of key n x ≡ true) × (key x ≡ n)) ⊎ ((is_of key n x ≡ false) × (key x ≡ n → ⊥)) → rises key (n + 1) (drop (prefix_len (is_of key n) (x ∷ xs)) (x ∷ xs)) ≡ true
rises_behind_by key n x xs more h (inl t) =
    let one : 1 + prefix_len (is_of key n) xs ≡ suc (prefix_len (is_of key n) xs) = omega arith in
    rw (t.0, one) (more (rw t.1 at (rises_rest key n x xs h)))
rises_behind_by key n x xs more h (inr t) =
    let first = rises_first key n x xs h in
    let no = t.1 in
    let above : n + 1 ≤ key x = omega (arith, first, no) in
    rw t.0 (and_from _ _ (le-leb (n + 1) (key x) above) (rises_rest key n x xs h))

pub rises_behind : {X : Type 0} (key : X → ℕ) (n : ℕ) (xs : List X) → rises key n xs ≡ true → rises key (n + 1) (drop (prefix_len (is_of key n) xs) xs) ≡ true
rises_behind key n [] h = refl
rises_behind key n (x ∷ xs) h = rises_behind_by key n x xs (rises_behind key n xs) h (eqb_tells (key x) n)

of_greater_by : {X : Type 0} (key : X → ℕ) (m n : ℕ) (x : X) (xs : List X) → filter (is_of key m) (drop (prefix_len (is_of key n) xs) xs) ≡ filter (is_of key m) xs → n < m
    → ((is_of key n x ≡ true) × (key x ≡ n)) ⊎ ((is_of key n x ≡ false) × (key x ≡ n → ⊥)) → filter (is_of key m) (drop (prefix_len (is_of key n) (x ∷ xs)) (x ∷ xs)) ≡ filter (is_of key m) (x ∷ xs)
of_greater_by key m n x xs more lt (inl t) =
    let same = t.1 in
    let other : is_of key m x ≡ false = ne_eqb (key x) m (λ e. absurd (omega (arith, lt, same, e))) in
    let one : 1 + prefix_len (is_of key n) xs ≡ suc (prefix_len (is_of key n) xs) = omega arith in
    rw (t.0, other, one) more
of_greater_by key m n x xs more lt (inr t) = rw t.0 refl

pub of_greater : {X : Type 0} (key : X → ℕ) (m n : ℕ) (xs : List X) → n < m → filter (is_of key m) (drop (prefix_len (is_of key n) xs) xs) ≡ filter (is_of key m) xs
of_greater key m n [] lt = refl
of_greater key m n (x ∷ xs) lt = of_greater_by key m n x xs (of_greater key m n xs lt) lt (eqb_tells (key x) n)

-- ---- a list that was sorted

pub rises_sorted : {X : Type 0} (key : X → ℕ) (n : ℕ) (xs : List X) → ((d : X) → 0 < length xs → n ≤ key (get_or xs 0 d)) → IsNonDecreasingBy key xs → rises key n xs ≡ true
rises_sorted key n [] h s = refl
rises_sorted key n (x ∷ xs) h s =
    and_from _ _ (le-leb n (key x) (h x (omega arith))) (rises_sorted key (key x) xs (λ d lt. s 0 1 d (omega arith) (omega (arith, lt))) (λ i j d le lt. s (suc i) (suc j) d (omega (arith, le)) (omega (arith, lt))))

-- sorting keeps those of a number in their order
lt_of : (p q : Bool) → is_lt (cond p Less (cond q Equal Greater)) ≡ p
lt_of true q = refl
lt_of false true = refl
lt_of false false = refl

neither : (a b n : ℕ) → a ≡ n → (not (nat_lt a b) && not (nat_lt b a)) ≡ (b == n)
neither a b n e = grind (arith, common_steps, e, leb_tells (a + 1) b, leb_tells (b + 1) a, eqb_tells b n)

ties_is : {X : Type 0} (key : X → ℕ) (n : ℕ) (x y : X) → key x ≡ n → ties (λ a b. is_lt (nat_cmp (key a) (key b))) x y ≡ is_of key n y
ties_is key n x y e =
    let one = lt_of (nat_lt (key x) (key y)) (key x == key y) in
    let other = lt_of (nat_lt (key y) (key x)) (key y == key x) in
    rw (one, other) (neither (key x) (key y) n e)

pub sorted_same : {X : Type 0} (key : X → ℕ) (n : ℕ) (x : X) (xs ys : List X) → key x ≡ n → IsStableByKey key nat_cmp xs ys → filter (is_of key n) ys ≡ filter (is_of key n) xs
sorted_same {X} key n x xs ys e s =
    let same : ties (λ (a : X) (b : X). is_lt (nat_cmp (key a) (key b))) x ≡ is_of key n = λ i y. ties_is key n x y e i in
    rw same at (s x)

-- ---- from a place on

abbrev count_at : {X : Type 0} → (X → ℕ) → ℕ → ℕ → List X → ℕ
count_at key n at xs = prefix_len (is_of key n) (drop at xs)

pub rises_next : {X : Type 0} (key : X → ℕ) (n at : ℕ) (xs : List X) → rises key n (drop at xs) ≡ true → rises key (n + 1) (drop (at + prefix_len (is_of key n) (drop at xs)) xs) ≡ true
rises_next key n at xs h =
    let moved = drop-drop (count_at key n at xs) at xs in
    rw moved at (rises_behind key n (drop at xs) h)

pub same_next : {X : Type 0} (key : X → ℕ) (n at : ℕ) (xs : List X) → ((m : ℕ) → n ≤ m → filter (is_of key m) (drop at xs) ≡ filter (is_of key m) xs)
    → (m : ℕ) → n + 1 ≤ m → filter (is_of key m) (drop (at + prefix_len (is_of key n) (drop at xs)) xs) ≡ filter (is_of key m) xs
same_next key n at xs s m le =
    let moved = drop-drop (count_at key n at xs) at xs in
    let behind = rw moved at (of_greater key m n (drop at xs) (omega (arith, le))) in
    behind ∙ s m (omega (arith, le))

pub here_is : {X : Type 0} (key : X → ℕ) (n at : ℕ) (xs : List X) → rises key n (drop at xs) ≡ true → ((m : ℕ) → n ≤ m → filter (is_of key m) (drop at xs) ≡ filter (is_of key m) xs)
    → take (prefix_len (is_of key n) (drop at xs)) (drop at xs) ≡ filter (is_of key n) xs
here_is key n at xs h s = sym (of_least key n (drop at xs) h) ∙ s n (omega arith)

range_longer : (a n : ℕ) → range_with_len a (n + 1) ≡ range_with_len a n ++ (a + n) ∷ []
range_longer a zero =
    let same : a ≡ a + 0 = omega arith in
    ap (λ m. m ∷ []) same
range_longer a (suc n) =
    let h = range_longer (a + 1) n in
    let e : a + 1 + n ≡ a + suc n = omega arith in
    let s : suc n + 1 ≡ suc (n + 1) = omega arith in
    rw s (ap (λ xs. a ∷ xs) (rw e at h))

range_more : (n : ℕ) → range_with_len 0 (n + 1) ≡ range_with_len 0 n ++ n ∷ []
range_more n =
    let same : 0 + n ≡ n = omega arith in
    rw same at (range_longer 0 n)

-- one more piece
pub one_more : {A : Type 0} (f : ℕ → List A) (n : ℕ) (before now later piece : List A) → now ≡ before ++ flat_map f (range_with_len 0 n) → later ≡ now ++ piece → piece ≡ f n
    → later ≡ before ++ flat_map f (range_with_len 0 (n + 1))
one_more f n before now later piece a b e =
    b ∙ ap (λ xs. xs ++ piece) a ∙ ap (λ ys. (before ++ flat_map f (range_with_len 0 n)) ++ ys) e ∙ flat_map_more f before (range_with_len 0 n) n ∙ ap (λ ns. before ++ flat_map f ns) (sym (range_more n))
