-- Texts from the last to the first.
use Rattle.std.proofs.Common.{◌≡◌, ℕ, List, [], ◌∷◌, ◌++◌, map, reverse, refl, sym, ap, ◌∙◌}
use Rattle.std.proofs.lemmas.Grind.{reverse_onto}
use Rattle.std.proofs.lemmas.List.{map-append}

pub reversed_of : {X : Type 0} (f : X → List ℕ) (xs : List X) → map f (reverse xs) ≡ reverse (map f xs)
reversed_of f [] = refl
reversed_of f (x ∷ xs) =
    ap (map f) (reverse_onto xs x [])
    ∙ map-append f (reverse xs) (x ∷ [])
    ∙ ap (λ (r : List (List ℕ)). r ++ f x ∷ []) (reversed_of f xs)
    ∙ sym (reverse_onto (map f xs) (f x) [])

pub reversed_and : {X : Type 0} (f : X → List ℕ) (xs : List X) (x : X) → map f (reverse xs ++ x ∷ []) ≡ reverse (map f xs) ++ f x ∷ []
reversed_and f xs x = map-append f (reverse xs) (x ∷ []) ∙ ap (λ (r : List (List ℕ)). r ++ f x ∷ []) (reversed_of f xs)
