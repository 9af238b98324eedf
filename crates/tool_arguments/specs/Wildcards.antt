-- Names that match a pattern.
use Rattle.std.specs.Prelude.{ℕ, List, [], ◌∷◌, Bool, true, false, ◌&&◌, ◌||◌, ◌==◌, if◌then◌else◌}

-- the name is empty
abbrev pub is_empty : List ℕ → Bool
is_empty [] = true
is_empty (b ∷ name) = false

-- the first byte is this one, and the others pass a test
abbrev pub begins_with : ℕ → (List ℕ → Bool) → List ℕ → Bool
begins_with p test [] = false
begins_with p test (b ∷ name) = p == b && test name

-- the bytes from some offset on pass a test
abbrev pub from_somewhere : (List ℕ → Bool) → List ℕ → Bool
from_somewhere test [] = test []
from_somewhere test (b ∷ name) = test (b ∷ name) || from_somewhere test name

-- a name matches a pattern: `*` (42) stands for any bytes, also none, and each other byte for itself
abbrev pub matches : List ℕ → List ℕ → Bool
matches [] name = is_empty name
matches (p ∷ pattern) name = if p == 42 then from_somewhere (matches pattern) name else begins_with p (matches pattern) name
