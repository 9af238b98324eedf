-- What is kept of a file stays what the file says while more of it is read.
use Rattle.std.proofs.Common.{◌≡◌, ◌<◌, List, ℕ, Bool, true, false, true≢false, length, None, Some, Option, sym, ap, ◌∙◌, subst}
use Rattle.pdb.specs.Source.{State, Continues}
use Rattle.pdb.specs.Container.{stream_of}
use Rattle.pdb.specs.Answers.{debug_information_in, global_symbols_in, string_table_in}
use Rattle.pdb_resolve.specs.declared.part.Part.{Part}
use Rattle.pdb_resolve.specs.declared.frames.FunctionNames.{FunctionNames}
use Rattle.pdb_resolve.specs.declared.name_tables.NameTables.{NameTables}
use Rattle.pdb_resolve.specs.declared.modules.Modules.{Modules}
use Rattle.pdb_resolve.specs.declared.global_names.GlobalNames.{GlobalNames}
use Rattle.pdb_places.specs.declared.public_names.PublicNames.{PublicNames}
use Rattle.pdb_resolve.specs.declared.tables.Tables.{Tables}
use Rattle.pdb_resolve.specs.declared.kept_file.KeptFile.{KeptFile}
use Rattle.pdb_places.specs.AsIfEmpty.{if_read}
use Rattle.pdb_resolve.specs.FileParts.{items_listed, modules_listed}
use Rattle.pdb_resolve.specs.KeptParts.{IsAskedOf, IsMadeOf, IsPublicsOf, AreTablesOf, AreModulesOf, AreGlobalsOf, AreRead, codes_of, streams_of}
use Rattle.pdb_resolve.specs.KeptNames.{AreNamesOf, IsFileKept}
use Rattle.pdb_resolve.proofs.CrossingsGoOn.{crossings_on}

pub asked_more : {A : Type 0} (told told' : Bool) (reading reading' : Option A) (p : Part A) → (told' ≡ true → told ≡ true) → reading ≡ reading' → IsAskedOf told reading p → IsAskedOf told' reading' p
asked_more told told' reading reading' p falls same are = record { read = λ t h. are.read (falls t) h ∙ same; room = are.room }

pub asked_on : {A : Type 0} (a b : State) (reading : List ℕ → Option A) (p : Part A) → Continues a b → IsAskedOf a.told (reading a.file) p → IsAskedOf b.told (reading b.file) p
asked_on a b reading p c are = asked_more a.told b.told (reading a.file) (reading b.file) p c.told (sym (ap reading c.file)) are

made_on : (a b : State) (made : Option FunctionNames) → Continues a b → IsMadeOf a made → IsMadeOf b made
made_on a b None c are = tt
made_on a b (Some n) c are = λ told. let m = are (c.told told) in (m.0 ∙ ap (λ file. items_listed file 4) (sym c.file), m.1 ∙ ap (λ file. items_listed file 2) (sym c.file))

pub tables_on : (a b : State) (t : NameTables) → Continues a b → AreTablesOf a t → AreTablesOf b t
tables_on a b t c are = record {
  ids = asked_on a b (λ file. if_read (stream_of file 4 None)) t.ids c are.ids;
  types = asked_on a b (λ file. if_read (stream_of file 2 None)) t.types c are.types;
  made = made_on a b t.made c are.made;
  information = λ told. are.information (c.told told) ∙ ap (λ file. if_read (debug_information_in file)) (sym c.file);
}

publics_on : (a b : State) (publics : Option PublicNames) → Continues a b → IsPublicsOf a publics → IsPublicsOf b publics
publics_on a b None c are = tt
publics_on a b (Some p) c are = λ told. are (c.told told) ∙ ap (λ file. if_read (global_symbols_in file)) (sym c.file)

pub globals_on : (a b : State) (g : GlobalNames) → Continues a b → AreGlobalsOf a g → AreGlobalsOf b g
globals_on a b g c are = record {
  globals = asked_on a b (λ file. if_read (global_symbols_in file)) g.globals c are.globals;
  publics = publics_on a b g.publics c are.publics;
}

pub modules_on : (a b : State) (ms : Modules) → Continues a b → AreModulesOf a ms → AreModulesOf b ms
modules_on a b ms c are = record {
  listed = λ told. are.listed (c.told told) ∙ ap modules_listed (sym c.file);
  codes = λ told. subst (λ file. AreRead file (codes_of ms)) (sym c.file) (are.codes (c.told told));
  streams = λ told. subst (λ file. AreRead file (streams_of ms)) (sym c.file) (are.streams (c.told told));
  as_many = are.as_many;
  as_many_streams = are.as_many_streams;
  rooms = are.rooms;
}

pub names_on : (a b : State) (t : Tables) → Continues a b → AreNamesOf a t → AreNamesOf b t
names_on a b t c are = record {
  strings = asked_on a b (λ file. if_read (string_table_in file)) t.strings c are.strings;
  names = tables_on a b t.names c are.names;
  crossings = crossings_on a b t.crossings c are.crossings;
  globals = globals_on a b t.globals c are.globals;
}

pub file_on : (a b : State) (k : KeptFile) → Continues a b → IsFileKept a k → IsFileKept b k
file_on a b k c are = record {
  module_places = λ told. are.module_places (c.told told) ∙ ap (λ file. if_read (debug_information_in file)) (sym c.file);
  modules = modules_on a b k.modules c are.modules;
  tables = names_on a b k.tables c are.tables;
}

-- the globals were asked for
pub with_globals : (a b : State) (k : KeptFile) (g : GlobalNames) → Continues a b → IsFileKept a k → AreGlobalsOf b g
    → IsFileKept b (record { module_places = k.module_places; modules = k.modules; tables = record { strings = k.tables.strings; names = k.tables.names; crossings = k.tables.crossings; globals = g } })
with_globals a b k g c are new =
    let on = file_on a b k c are in
    record { module_places = on.module_places; modules = on.modules; tables = record { strings = on.tables.strings; names = on.tables.names; crossings = on.tables.crossings; globals = new } }

-- the tables were asked for
pub with_tables : (a b : State) (k : KeptFile) (t : Tables) → Continues a b → IsFileKept a k → AreNamesOf b t → IsFileKept b (record { module_places = k.module_places; modules = k.modules; tables = t })
with_tables a b k t c are new =
    let on = file_on a b k c are in
    record { module_places = on.module_places; modules = on.modules; tables = new }

-- a part that wasn't asked for
pub unasked_is : {A : Type 0} (told : Bool) (reading : Option A) (p : Part A) → p.asked ≡ false → 0 < length p.rooms.now → IsAskedOf told reading p
unasked_is told reading p unasked room = record { read = λ t h. absurd (true≢false (sym h ∙ unasked)); room = λ h. room }
