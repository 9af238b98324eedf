-- The ids of other modules, by the imports of a module and by what each of the modules exports from which it imports.
use Rattle.std.specs.Prelude.{ℕ, ◌/◌, ◌%◌, ◌^◌, if◌then◌else◌, List, [], get_or, Option, Some, None, Result}
use Rattle.pdb.specs.Error.{Error}
use Rattle.pdb.specs.Modules.{ModuleEntry}
use Rattle.pdb.specs.CrossModule.{ImportedModule, Reference, reference_of, global_of}
use Rattle.pdb_places.specs.AsIfEmpty.{if_read, read_or}
use Rattle.pdb_resolve.specs.AcrossModules.{exports_named, is_imported}
use Rattle.pdb_resolve.specs.Frames.{string_in}

abbrev pub imports_or_none : Result (List ImportedModule) Error → List ImportedModule
imports_or_none imports = read_or imports []

-- what a module exports from which is imported
abbrev pub exports_for : List ℕ → Option (List ℕ) → List ModuleEntry → ImportedModule → List (ℕ × ℕ)
exports_for file strings ms x = exports_named file ms (string_in strings x.name)

abbrev pub id_among : List (ℕ × ℕ) → Option Reference → Option ℕ
id_among pairs None = None
id_among pairs (Some r) = global_of r.local pairs

-- the imports of a module, and what the modules export from which they are, in the same order
pub record ImportTable : Type 0 where
  pub imports : List ImportedModule
  pub exports : List (List (ℕ × ℕ))

-- the id that the whole file knows: bits 20 to 30 tell the place of the module, as in `reference_of`
abbrev pub ids_by : ImportTable → ℕ → Option ℕ
ids_by t id =
    if is_imported id then id_among (get_or t.exports (id / 2 ^ 20 % 2 ^ 11) []) (if_read (reference_of id t.imports)) else Some id
