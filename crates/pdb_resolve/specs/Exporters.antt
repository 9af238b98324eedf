-- The modules from which a module imports.
use Rattle.std.specs.Prelude.{◌≡◌, ℕ, List, Option, Some, None, IsSome}
use Rattle.std.specs.Borrow.{Bor}
use Rattle.std.specs.BTreeMap.{BTreeMap}
use Rattle.pdb.specs.CrossModule.{ImportedModule}
use Rattle.pdb.specs.Modules.{ModuleEntry}
use Rattle.pdb_resolve.specs.Frames.{string_in}
use Rattle.pdb_resolve.specs.ModuleNumbers.{number_named}
use Rattle.pdb_resolve.specs.NumberViews.{number_in}

-- the number of the first listed module of a name
abbrev pub number_where : List ModuleEntry → Option (List ℕ) → Option ℕ
number_where ms None = None
number_where ms (Some name) = number_named ms name

-- of the module from which is imported
abbrev pub exporter : Option (List ℕ) → List ModuleEntry → ImportedModule → Option ℕ
exporter strings ms x = number_where ms (string_in strings x.name)

-- its name is among these
abbrev pub HasName : Option (List ℕ) → BTreeMap (Bor (List ℕ)) ℕ → ImportedModule → Type 0
HasName strings names x = (name : List ℕ) → string_in strings x.name ≡ Some name → IsSome (number_in names name)
