-- What is kept of a file by a resolver: what the file says, where all that was read is the file's.
use Rattle.std.specs.Prelude.{◌≡◌, ℕ, ◌+◌, ◌<◌, ◌≤◌, length, Bool, true, false, Box, List, [], ◌∷◌, Option, Some, None, option_copied, slice_index_or, map}
use Rattle.std.specs.declared.alloc.Global.{Global}
use Rattle.pdb.specs.Source.{State}
use Rattle.pdb.specs.Container.{stream_of}
use Rattle.pdb.specs.ModuleStream.{ModuleBytes}
use Rattle.pdb_resolve.specs.declared.frames.FunctionNames.{FunctionNames}
use Rattle.pdb_resolve.specs.declared.part.Part.{Part}
use Rattle.pdb_resolve.specs.declared.name_tables.NameTables.{NameTables}
use Rattle.pdb_resolve.specs.declared.modules.Modules.{Modules}
use Rattle.pdb_resolve.specs.declared.global_names.GlobalNames.{GlobalNames}
use Rattle.pdb_places.specs.declared.public_names.PublicNames.{PublicNames}
use Rattle.pdb.specs.Answers.{debug_information_in, global_symbols_in}
use Rattle.pdb_places.specs.AsIfEmpty.{if_read}
use Rattle.pdb_resolve.specs.FileParts.{items_listed, modules_listed, module_numbered}

-- what is kept of a part that was asked for is what was read; there is room for one that wasn't
pub record IsAskedOf {A : Type 0} (told : Bool) (reading : Option A) (p : Part A) : Type 0 where
  pub read : told ≡ true → p.asked ≡ true → option_copied p.there ≡ reading
  pub room : p.asked ≡ false → 0 < length p.rooms.now

-- the names that were made are those of the file
abbrev pub IsMadeOf : State → Option FunctionNames → Type 0
IsMadeOf s None = Unit {0}
IsMadeOf s (Some n) = s.told ≡ true → (n.ids ≡ items_listed s.file 4) × (n.types ≡ items_listed s.file 2)

pub record AreTablesOf (s : State) (t : NameTables) : Type 0 where
  pub ids : IsAskedOf s.told (if_read (stream_of s.file 4 None)) t.ids
  pub types : IsAskedOf s.told (if_read (stream_of s.file 2 None)) t.types
  pub made : IsMadeOf s t.made
  pub information : s.told ≡ true → option_copied t.information ≡ if_read (debug_information_in s.file)

-- the modules whose code is kept, by their numbers
abbrev pub boxed : Option (Box ModuleBytes Global) → Option ModuleBytes
boxed None = None
boxed (Some b) = Some b.value

abbrev pub codes_of : Modules → List (Option ModuleBytes)
codes_of ms = map boxed ms.codes.items

abbrev pub code_kept : Modules → ℕ → Option ModuleBytes
code_kept ms k = slice_index_or (codes_of ms) k None

-- of a module that a place may have
abbrev pub code_where : Modules → Option ℕ → Option ModuleBytes
code_where ms None = None
code_where ms (Some k) = code_kept ms k

-- the streams that were put down, by the numbers of their modules
abbrev pub streams_of : Modules → List (Option ModuleBytes)
streams_of ms = map option_copied ms.infos.items

abbrev pub stream_kept : Modules → ℕ → Option ModuleBytes
stream_kept ms k = slice_index_or (streams_of ms) k None

-- how many streams weren't put down
abbrev pub unkept : List (Option ModuleBytes) → ℕ
unkept [] = 0
unkept (None ∷ kept) = unkept kept + 1
unkept (Some m ∷ kept) = unkept kept

-- how many rooms are left
abbrev pub rooms_left : Modules → ℕ
rooms_left ms = length ms.rooms.now

-- what is kept of modules is what the file says of them
abbrev pub AreRead : List ℕ → List (Option ModuleBytes) → Type 0
AreRead file kept = (k : ℕ) (m : ModuleBytes) → slice_index_or kept k None ≡ Some m → module_numbered file k ≡ Some m

-- the list of modules is that of the file, and so is each module that was put down or read; there is room for as many as are listed, and for each stream that wasn't put down
pub record AreModulesOf (s : State) (ms : Modules) : Type 0 where
  pub listed : s.told ≡ true → ms.listed.items ≡ modules_listed s.file
  pub codes : s.told ≡ true → AreRead s.file (codes_of ms)
  pub streams : s.told ≡ true → AreRead s.file (streams_of ms)
  pub as_many : length (codes_of ms) ≡ length ms.listed.items
  pub as_many_streams : length (streams_of ms) ≡ length ms.listed.items
  pub rooms : unkept (streams_of ms) ≤ rooms_left ms

-- the publics that are kept are those of the file
abbrev pub IsPublicsOf : State → Option PublicNames → Type 0
IsPublicsOf s None = Unit {0}
IsPublicsOf s (Some p) = s.told ≡ true → p.stream ≡ if_read (global_symbols_in s.file)

pub record AreGlobalsOf (s : State) (g : GlobalNames) : Type 0 where
  pub globals : IsAskedOf s.told (if_read (global_symbols_in s.file)) g.globals
  pub publics : IsPublicsOf s g.publics
