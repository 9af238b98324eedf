-- Which id the whole file knows by an id in a module: a module may name an id of another module.
use Rattle.std.specs.Prelude.{ℕ, ◌^◌, nat_le, if◌then◌else◌, Bool, List, [], Option, Some, None, Result, find}
use Rattle.std.specs.Str.{bytes_eq}
use Rattle.pdb.specs.Error.{Error}
use Rattle.pdb.specs.Refusal.{◌>>=◌}
use Rattle.pdb.specs.Modules.{ModuleEntry}
use Rattle.pdb.specs.ModuleStream.{ModuleBytes, imports_of, exports_of}
use Rattle.pdb.specs.CrossModule.{Reference, reference_of, global_of}
use Rattle.pdb.specs.Answers.{string_table_in}
use Rattle.pdb_places.specs.AsIfEmpty.{if_read, read_or}
use Rattle.pdb.specs.Items.{ItemEntry}
use Rattle.pdb.specs.Qualified.{Qualified}
use Rattle.pdb_resolve.specs.Frames.{named_id, string_in}
use Rattle.pdb_resolve.specs.FileParts.{module_read, modules_listed}

-- an id whose top bit is set is one of another module
abbrev pub is_imported : ℕ → Bool
is_imported id = nat_le (2 ^ 31) id

-- what the imports of a module say of an id: the name of the other module, by its place in the string table, and the id that is local to that one
unfoldable pub reference_in : ModuleBytes → ℕ → Option Reference
reference_in m id = if_read (imports_of m >>= reference_of id)

-- the first listed module of a name
abbrev pub module_named : List ModuleEntry → List ℕ → Option ModuleEntry
module_named ms name = find (λ m. bytes_eq m.module_name name) ms

abbrev pub pairs_or_none : Result (List (ℕ × ℕ)) Error → List (ℕ × ℕ)
pairs_or_none pairs = read_or pairs []

-- the exports of a module; none where its stream isn't there
abbrev pub exports_where : Option ModuleBytes → List (ℕ × ℕ)
exports_where None = []
exports_where (Some m) = pairs_or_none (exports_of m)

-- the exports of the first listed module of a name; none where the name isn't there
unfoldable pub exports_named : List ℕ → List ModuleEntry → Option (List ℕ) → List (ℕ × ℕ)
exports_named file ms None = []
exports_named file ms (Some name) = exports_where (module_read file (module_named ms name))

module _ (file : List ℕ) (strings : Option (List ℕ)) (ms : List ModuleEntry) where
  -- the id that a module exports, by a reference to it
  abbrev pub exported_id : Option Reference → Option ℕ
  exported_id None = None
  exported_id (Some r) = global_of r.local (exports_named file ms (string_in strings r.name))

  -- the id that the whole file knows: an id without the top bit is it
  abbrev pub global_id : ModuleBytes → ℕ → Option ℕ
  global_id m id = if is_imported id then exported_id (reference_in m id) else Some id

-- by the string table and the list of modules of a file
abbrev pub global_id_in : List ℕ → ModuleBytes → ℕ → Option ℕ
global_id_in file m id = global_id file (if_read (string_table_in file)) (modules_listed file) m id

-- the name of a function by an id in a module, where global_id has the id that the whole file knows
unfoldable pub names_by : List ItemEntry → List ItemEntry → (ℕ → Option ℕ) → ℕ → Option Qualified
names_by ids types global_id id = named_id ids types (global_id id)

-- the same in a module of a file, of which these are the ids and the types
abbrev pub call_name : List ItemEntry → List ItemEntry → List ℕ → ModuleBytes → ℕ → Option Qualified
call_name ids types file m = names_by ids types (global_id_in file m)
