-- Variables as rows, and the text of their names.
use Rattle.std.specs.Prelude.{◌≡◌, ℕ, ◌+◌, List, [], ◌∷◌, ◌++◌, length, map, flat_map, Option, Some, None, is_some}
use Rattle.std.specs.Option.{unwrap_or}
use Rattle.pdb_resolve.specs.Resolved.{variables_of_file}
use Rattle.pdb_variables.specs.VariableRecords.{Place}
use Rattle.pdb_variables.specs.VariableRecords.Place.{Parts}
use Rattle.pdb_variables.specs.Variables.{Variable}
use Rattle.pdb_variables.specs.declared.locations.VariablePart.{VariablePart}
use Rattle.pdb_variables.specs.declared.variable_records.VariableKind.{VariableKind}
use Rattle.pdb_variables.specs.declared.variable_records.VariableKind.TheVariants.{Parameter, Local, Static, Thread, Constant}
use Rattle.pdb_c.specs.Rooms.{over}
use Rattle.pdb_c.specs.Boundary.{room_code, both_code}
use Rattle.pdb_c.specs.FrameRows.{place_asked, told_of}
use Rattle.pdb_c.specs.MemberRows.{low_half, high_half}
use Rattle.pdb_c.specs.StorageNumbers.{place_numbers, storage_numbers}
use Rattle.pdb_c.specs.declared.frames.PdbAddress.{PdbAddress}
use Rattle.pdb_c.specs.declared.storage_numbers.StorageNumbers.{StorageNumbers}
use Rattle.pdb_c.specs.declared.variables.PdbVariable.{PdbVariable}

-- ---- rows

-- what a variable is, from 1
abbrev pub kind_number : VariableKind → ℕ
kind_number Parameter = 1
kind_number Local = 2
kind_number Static = 3
kind_number Thread = 4
kind_number Constant = 5

-- a variable of so many parts, or the part of it at an offset, of the address with this number; its name stands from a place on
abbrev pub variable_row : ℕ → ℕ → Variable → ℕ → Option ℕ → StorageNumbers → PdbVariable
variable_row k at v parts part s = record {
  value = low_half s.value;
  value_high = high_half s.value;
  address = k;
  call = unwrap_or v.owner 0;
  name_at = at;
  name_size = length v.name;
  parts = parts;
  type_index = v.type_index.0;
  kind = kind_number v.kind;
  location = s.location;
  number = s.number;
  displacement = s.displacement;
  offset = s.offset;
  section = s.section;
  part = unwrap_or part 0;
  is_part = told_of (is_some part);
  is_inlined = told_of (is_some v.owner);
}

abbrev pub part_row : ℕ → ℕ → Variable → ℕ → VariablePart → PdbVariable
part_row k at v parts p = variable_row k at v parts (Some p.offset) (storage_numbers p.storage)

-- one row, or one of each part
abbrev pub located_rows : ℕ → ℕ → Variable → Place → List PdbVariable
located_rows k at v (Parts parts) = map (part_row k at v (length parts)) parts
located_rows k at v place = variable_row k at v 0 None (place_numbers place) ∷ []

abbrev pub variable_rows : ℕ → ℕ → List Variable → List PdbVariable
variable_rows k at [] = []
variable_rows k at (v ∷ vs) = located_rows k at v v.place ++ variable_rows k (at + length v.name) vs

abbrev pub variable_names : List Variable → List ℕ
variable_names vs = flat_map (λ v. v.name) vs

-- ---- addresses

-- the variables in scope at an address
abbrev pub variables_asked : List ℕ → PdbAddress → List Variable
variables_asked file a = variables_of_file file (place_asked file a)

abbrev pub names_asked : List ℕ → PdbAddress → List ℕ
names_asked file a = variable_names (variables_asked file a)

-- those of addresses, one address after the other, the first with this number
abbrev pub all_variable_rows : List ℕ → ℕ → ℕ → List PdbAddress → List PdbVariable
all_variable_rows file k at [] = []
all_variable_rows file k at (a ∷ more) = variable_rows k at (variables_asked file a) ++ all_variable_rows file (k + 1) (at + length (names_asked file a)) more

abbrev pub all_variable_names : List ℕ → List PdbAddress → List ℕ
all_variable_names file asked = flat_map (names_asked file) asked

-- what a call put: the rows of variables and their names, each as far as its room reaches
pub record AreVariables (file : List ℕ) (asked : List PdbAddress) (c : ℕ) (before after : List PdbVariable) (variables : ℕ) (old new : List ℕ) (total : ℕ) : Type 0 where
  pub rows : after ≡ over (all_variable_rows file 0 0 asked) before
  pub count : variables ≡ length (all_variable_rows file 0 0 asked)
  pub names : new ≡ over (all_variable_names file asked) old
  pub size : total ≡ length (all_variable_names file asked)
  pub code : c ≡ both_code (room_code (length before) (length (all_variable_rows file 0 0 asked))) (room_code (length old) (length (all_variable_names file asked)))
