-- How many records of types are read where a name is put together. Each byte that is written pays for 128 of them.
use Rattle.std.specs.Prelude.{ℕ, ◌≤◌, ◌+◌, ◌*◌, Bool, false, List, length, Option, Some}
use Rattle.pdb_types.specs.TypeSays.{TypeSays}
use Rattle.pdb_types.specs.TypeSays.TypeSays.{Modifier}

-- at most so many more than the bytes that were written pay for
abbrev pub Paid : ℕ → ℕ → ℕ → List ℕ → List ℕ → Type 0
Paid more before after old new = after + 128 * length old ≤ before + 128 * length new + more

-- at most so many more than the bytes pay for that stand below the limit, also of a text that is cut off there
abbrev pub Bounded : ℕ → ℕ → ℕ → ℕ → List ℕ → Type 0
Bounded more limit before after old = after + 128 * length old ≤ before + 128 * limit + more

-- no record of qualifiers says that a type is `__restrict`, which only a pointer is
abbrev pub is_restricted : Option TypeSays → Bool
is_restricted (Some (Modifier s)) = s.qualifiers.is_restrict
is_restricted says = false
