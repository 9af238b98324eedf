-- Texts of pieces, one after another.
use Rattle.std.proofs.Common.{◌≡◌, ℕ, ◌+◌, ◌<◌, List, [], ◌∷◌, ◌++◌, flat_map, get_or, length, take, ap, ◌∙◌, append-nil, append_assoc, add-one}
use Rattle.std.proofs.Math.Seq.{take-suc}
use Rattle.std.proofs.lemmas.Grind.{flat_map-append}

-- one more piece was put
pub one_more : {X A : Type 0} (f : X → List A) (xs : List X) (i : ℕ) (d : X) (new old front : List A)
    → i < length xs → old ≡ front ++ flat_map f (take i xs) → new ≡ old ++ f (get_or xs i d) → new ≡ front ++ flat_map f (take (i + 1) xs)
one_more f xs i d new old front h was is =
    rw (add-one, take-suc xs i d h, flat_map-append f (take i xs) (get_or xs i d ∷ []), append-nil (f (get_or xs i d)))
    (is ∙ ap (λ l. l ++ f (get_or xs i d)) was ∙ append_assoc front (flat_map f (take i xs)) (f (get_or xs i d)))
