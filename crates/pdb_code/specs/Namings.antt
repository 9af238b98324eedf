-- What contracts see of the names of functions.
use Rattle.std.specs.Prelude.{ℕ, List, None, ◌≡◌, Option}
use Rattle.pdb.specs.Qualified.{Qualified, shown_qualified}
use Rattle.std.specs.Option.{option_map}
use Rattle.pdb.specs.Text.{name_bytes}
use Rattle.pdb_code.specs.ModuleCode.{Named}
use Rattle.pdb_code.specs.declared.function_names.FunctionName.{FunctionName}
use Rattle.pdb_code.specs.declared.function_names.FunctionName.TheVariants.{Read, Made}
use Rattle.pdb_code.specs.declared.function_names.Naming.{Naming}
use Rattle.pdb_code.specs.declared.function_names.NamedCode.{NamedCode}

-- the name of a function that isn't qualified
abbrev pub plain : List ℕ → Qualified
plain name = record { scope = None; name = name }

-- what a name of a function shows
abbrev pub shown_function_name : FunctionName → Qualified
shown_function_name (Read name) = shown_qualified name
shown_function_name (Made name) = plain name.items

abbrev pub name_shown : FunctionName → List ℕ
name_shown name = (shown_function_name name).name

-- what names a place is kept with a name that isn't qualified
abbrev pub IsNameOf : Option FunctionName → Option (List ℕ) → Type 0
IsNameOf name expected = option_map shown_function_name name ≡ option_map plain expected

pub record IsNamed (n : Naming) (expected : Named) : Type 0 where
  pub name : IsNameOf n.name expected.name
  pub start : n.start ≡ expected.start

-- what names code by a record
abbrev pub shown_naming : NamedCode → Named
shown_naming n = record { name = option_map name_bytes n.name; start = n.start }
