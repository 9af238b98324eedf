-- Each of some texts once, with one more text behind them.
use Rattle.std.proofs.Common.{◌≡◌, ℕ, List, [], ◌∷◌, ◌++◌, append-nil, filter, Bool, true, false, not, refl, ◌∙◌, ap}
use Rattle.std.specs.Str.{bytes_eq}
use Rattle.std.proofs.Common.{arith}
use Rattle.std.proofs.lemmas.List.Elements.{filter-append}
use Rattle.std.proofs.lemmas.Map.Views.{any-filter_same}
use Rattle.std.proofs.lemmas.Slice.Eq.{bytes_eq-Decides}
use Rattle.pdb_paths.specs.ImagePaths.{is_among, once, with_new}

-- the texts that are another one than y
abbrev others : List ℕ → List (List ℕ) → List (List ℕ)
others y l = filter (λ other. not (bytes_eq other y)) l

other_way : (x y : List ℕ) → bytes_eq y x ≡ false → bytes_eq x y ≡ false
other_way x y e = let d = bytes_eq-Decides x y in let f = bytes_eq-Decides y x in grind arith

is_other : (x y k : List ℕ) → bytes_eq y x ≡ false → bytes_eq k x ≡ true → not (bytes_eq k y) ≡ true
is_other x y k e h = let k_is : k ≡ x = (bytes_eq-Decides k x).0 h in rw (k_is, other_way x y e) refl

same : (x y : List ℕ) → bytes_eq y x ≡ true → bytes_eq x y ≡ true
same x y e = let d = bytes_eq-Decides x y in let f = bytes_eq-Decides y x in grind arith

-- where y is the new text
known : (x y : List ℕ) (l : List (List ℕ)) (b : Bool) → bytes_eq y x ≡ true → is_among l x ≡ b → y ∷ others y (with_new l x) ≡ with_new (y ∷ others y l) x
known x y l true e h = rw (e, h) refl
known x y l false e h = rw (e, h, filter-append (λ other. not (bytes_eq other y)) l (x ∷ []), same x y e, append-nil (others y l)) refl

-- where it is another one
new : (x y : List ℕ) (l : List (List ℕ)) (b : Bool) → bytes_eq y x ≡ false → is_among l x ≡ b → y ∷ others y (with_new l x) ≡ with_new (y ∷ others y l) x
new x y l true e h =
    let found : is_among (others y l) x ≡ true = any-filter_same (λ o. bytes_eq o x) (λ o. not (bytes_eq o y)) true (λ k. is_other x y k e) l ∙ h in
    rw (e, h, found) refl
new x y l false e h =
    let found : is_among (others y l) x ≡ false = any-filter_same (λ o. bytes_eq o x) (λ o. not (bytes_eq o y)) true (λ k. is_other x y k e) l ∙ h in
    rw (e, h, found, filter-append (λ other. not (bytes_eq other y)) l (x ∷ []), other_way x y e) refl

behind : (x y : List ℕ) (l : List (List ℕ)) (b : Bool) → bytes_eq y x ≡ b → y ∷ others y (with_new l x) ≡ with_new (y ∷ others y l) x
behind x y l true e = known x y l (is_among l x) e refl
behind x y l false e = new x y l (is_among l x) e refl

pub one_more : (ys : List (List ℕ)) (x : List ℕ) → once (ys ++ x ∷ []) ≡ with_new (once ys) x
unfolding once
one_more [] x = refl
one_more (y ∷ ys) x = ap (λ l. y ∷ others y l) (one_more ys x) ∙ behind x y (once ys) (bytes_eq y x) refl
