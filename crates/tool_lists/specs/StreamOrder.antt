-- Things in the order of their numbers.
use Rattle.std.specs.Prelude.{ℕ, List, [], ◌∷◌, Bool, true, ◌&&◌, ◌==◌, nat_le}

-- from n on, in their order
abbrev pub rises : {X : Type 0} → (X → ℕ) → ℕ → List X → Bool
rises key n [] = true
rises key n (x ∷ xs) = nat_le n (key x) && rises key (key x) xs

-- one has this number
abbrev pub is_of : {X : Type 0} → (X → ℕ) → ℕ → X → Bool
is_of key n x = key x == n
