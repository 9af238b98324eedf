-- The names of modules that have no PDB.
use Rattle.std.specs.Prelude.{ℕ, ◌+◌, get_or, position, set, List, [], ◌∷◌, ◌++◌, codes, decimal, length, min, nat_lt, ◌==◌, Bool, if◌then◌else◌, Option, Some, None}
use Rattle.std.specs.Str.{bytes_eq}
use Rattle.tool_stacks.specs.declared.missing.MissingPdb.{MissingPdb}

-- a name, and how many references there are to it
pub record Missing : Type 0 where
  pub name : List ℕ
  pub count : ℕ

abbrev pub missing_of : MissingPdb → Missing
missing_of m = record { name = m.name.items; count = m.count }

abbrev pub is_named : List ℕ → Missing → Bool
is_named name m = bytes_eq m.name name

-- one more, of 64 bits
abbrev pub more : Missing → Missing
more m = record { name = m.name; count = min (m.count + 1) 18446744073709551615 }

abbrev pub index_of : List ℕ → List Missing → Option ℕ
index_of name ms = position (is_named name) ms

-- the same of the list that has these
unfoldable pub index_in : List ℕ → List MissingPdb → Option ℕ
index_in name ms = position (λ m. is_named name (missing_of m)) ms

abbrev pub first : List ℕ → Missing
first name = record { name = name; count = 1 }

-- one more at an index; of a name that isn't there the first, unless there are 4,096 names
abbrev pub counted_at : List ℕ → List Missing → Option ℕ → List Missing
counted_at name ms (Some n) = set ms n (more (get_or ms n (first name)))
counted_at name ms None = if nat_lt (length ms) 4096 then ms ++ first name ∷ [] else ms

abbrev pub counted : List ℕ → List Missing → List Missing
counted name ms = counted_at name ms (index_of name ms)

-- what is reported of one
abbrev pub addresses : ℕ → List ℕ
addresses n = if n == 1 then codes " address" else codes " addresses"

abbrev pub count_text : ℕ → List ℕ
count_text n = decimal n ++ addresses n

abbrev pub missing_line : Missing → List ℕ
missing_line m = codes "no PDB for " ++ m.name ++ codes " (" ++ count_text m.count ++ codes ")"
