-- One of several words, and bytes one by one.
use Rattle.std.proofs.Common.{◌≡◌, ℕ, suc, ◌+◌, ◌<◌, ◌≤◌, List, [], ◌∷◌, length, map, get_or, drop, Bool, true, false, sym, arith}
use Rattle.std.proofs.Math.Seq.{drop-cons}
use Rattle.std.proofs.lemmas.Bool.{eq-eqb, ne_eqb}
use Rattle.std.proofs.lemmas.Grind.{common_steps}
use Rattle.std.specs.List.{list_any}
use Rattle.std.specs.Str.{bytes_eq}

-- a word that passes is found
pub any_here : {A X : Type 0} (p : A → Bool) (view : X → A) (words : List X) (told : Bool) (i : ℕ) (d : X)
    → i < length words → p (view (get_or words i d)) ≡ true → told ≡ list_any p (map view (drop i words)) → true ≡ told
any_here p view words told i d lt e h = sym (rw (drop-cons words i d lt, e) at h)

-- one that doesn't is passed over
pub any_next : {A X : Type 0} (p : A → Bool) (view : X → A) (words : List X) (told : Bool) (i : ℕ) (d : X)
    → i < length words → p (view (get_or words i d)) ≡ false → told ≡ list_any p (map view (drop i words)) → told ≡ list_any p (map view (drop (i + 1) words))
any_next p view words told i d lt e h =
    let one : suc i ≡ i + 1 = omega arith in
    let next : drop i words ≡ get_or words i d ∷ drop (i + 1) words = rw one at (drop-cons words i d lt) in
    rw (next, e) at h

pub any_none : {A X : Type 0} (p : A → Bool) (view : X → A) (words : List X) (told : Bool) (i : ℕ) → length words ≤ i → told ≡ list_any p (map view (drop i words)) → false ≡ told
any_none p view words told i le h =
    let none : drop i words ≡ [] = grind (arith, common_steps) in
    sym (rw none at h)

-- ---- two lists of bytes, each changed by a function

pub alike_differ : (f : ℕ → ℕ) (left right : List ℕ) (told : Bool) (i : ℕ) → i < length left → length left ≡ length right → (f (get_or left i 0) ≡ f (get_or right i 0) → ⊥)
    → told ≡ bytes_eq (map f (drop i left)) (map f (drop i right)) → false ≡ told
alike_differ f left right told i lt same ne h =
    sym (rw (drop-cons left i 0 lt, drop-cons right i 0 (omega (arith, same)), ne_eqb _ _ ne) at h)

pub alike_next : (f : ℕ → ℕ) (left right : List ℕ) (told : Bool) (i : ℕ) → i < length left → length left ≡ length right → f (get_or left i 0) ≡ f (get_or right i 0)
    → told ≡ bytes_eq (map f (drop i left)) (map f (drop i right)) → told ≡ bytes_eq (map f (drop (i + 1) left)) (map f (drop (i + 1) right))
alike_next f left right told i lt same e h =
    let one : suc i ≡ i + 1 = omega arith in
    let l : drop i left ≡ get_or left i 0 ∷ drop (i + 1) left = rw one at (drop-cons left i 0 lt) in
    let r : drop i right ≡ get_or right i 0 ∷ drop (i + 1) right = rw one at (drop-cons right i 0 (omega (arith, same))) in
    rw (l, r, eq-eqb _ _ e) at h

pub alike_all : (f : ℕ → ℕ) (left right : List ℕ) (told : Bool) (i : ℕ) → length left ≤ i → length left ≡ length right → told ≡ bytes_eq (map f (drop i left)) (map f (drop i right)) → true ≡ told
alike_all f left right told i le same h =
    let l : drop i left ≡ [] = grind (arith, common_steps) in
    let r : drop i right ≡ [] = grind (arith, common_steps) in
    sym (rw (l, r) at h)
