-- How many bytes of a name are read: each at most once.
use Rattle.std.specs.Prelude.{ℕ, ◌≡◌, ◌≤◌, ◌+◌, List, length}

-- as many bytes were read as stand before the rest
abbrev pub Passed : ℕ → ℕ → List ℕ → List ℕ → Type 0
Passed before after bytes rest = after + length rest ≡ before + length bytes

-- no more bytes were read than there are
abbrev pub Within : ℕ → ℕ → List ℕ → Type 0
Within before after bytes = after ≤ before + length bytes
