-- The numbers of modules by their names.
use Rattle.std.specs.Prelude.{ℕ, ◌+◌, if◌then◌else◌, List, [], ◌∷◌, Option, Some, None}
use Rattle.std.specs.Str.{bytes_eq}
use Rattle.pdb.specs.Modules.{ModuleEntry}

-- the number of the first of these modules that has a name, where the first of all has the number k
abbrev pub number_from : ℕ → List ModuleEntry → List ℕ → Option ℕ
number_from k [] name = None
number_from k (m ∷ ms) name = if bytes_eq m.module_name name then Some k else number_from (k + 1) ms name

abbrev pub number_named : List ModuleEntry → List ℕ → Option ℕ
number_named ms name = number_from 0 ms name
