-- The numbers that tell which file it is, the modules' records, and names.
use Rattle.std.specs.Prelude.{ℕ, List, [], ◌∷◌, map, slice_index, Result, Ok}
use Rattle.pdb.specs.Error.{Error}
use Rattle.pdb.specs.Refusal.{◌>>=◌}
use Rattle.pdb.specs.Container.{opens}
use Rattle.pdb.specs.Information.{Information}
use Rattle.pdb.specs.DBIHeader.{DBIHeader}
use Rattle.pdb.specs.Header.{header_of}
use Rattle.pdb.specs.StringTable.{names_of}
use Rattle.pdb.specs.Fields.{cstring_at}
use Rattle.pdb.specs.Modules.{ModuleEntry}
use Rattle.pdb.specs.HeaderVersion.{HeaderVersion}
use Rattle.pdb.specs.HeaderVersion.TheVariants as version
use Rattle.pdb.specs.Answers.{information_in, debug_information_in}
use Rattle.pdb_c.specs.declared.information.PdbInformation.{PdbInformation}
use Rattle.pdb_c.specs.declared.information.PdbDebugInformation.{PdbDebugInformation}
use Rattle.pdb_c.specs.declared.modules.PdbModule.{PdbModule}

-- the number of a version
abbrev pub version_number : HeaderVersion → ℕ
version_number version.V41 = 930803
version_number version.V50 = 19960307
version_number version.V60 = 19970606
version_number version.V70 = 19990903
version_number version.V110 = 20091201
version_number (version.OtherValue n) = n

-- the bytes of a GUID as files have them, and as a GUID of Windows has them in memory, of those in the order in which it is printed: the first three fields stand least byte first
abbrev pub guid_bytes : List ℕ → List ℕ
guid_bytes g = map (slice_index g) (3 ∷ 2 ∷ 1 ∷ 0 ∷ 5 ∷ 4 ∷ 7 ∷ 6 ∷ 8 ∷ 9 ∷ 10 ∷ 11 ∷ 12 ∷ 13 ∷ 14 ∷ 15 ∷ [])

-- which file it is
abbrev pub numbers_of : Information → PdbInformation
numbers_of i = record { guid = i.guid; guid_bytes = guid_bytes i.guid; version = version_number i.version; signature = i.signature; age = i.age }

unfoldable pub numbers_in : List ℕ → Result PdbInformation Error
numbers_in file = do
  u ← opens file
  i ← information_in file
  Ok (numbers_of i)

-- what the header of the DBI stream says
abbrev pub header_numbers : DBIHeader → PdbDebugInformation
header_numbers h = record { age = h.age; symbols_stream = h.symbol_records_stream.0; machine = h.machine_type; flags = h.flags }

unfoldable pub header_numbers_in : List ℕ → Result PdbDebugInformation Error
header_numbers_in file = do
  u ← opens file
  d ← debug_information_in file
  h ← header_of d
  Ok (header_numbers h)

-- the name at a place of the string table
unfoldable pub name_in : List ℕ → ℕ → Result (List ℕ) Error
name_in bytes place = names_of bytes >>= λ names. cstring_at names place

-- a module's record
abbrev pub entry_of : PdbModule → ModuleEntry
entry_of m = record {
  stream = m.stream;
  symbols_size = m.symbols_size;
  lines_size = m.lines_size;
  c13_lines_size = m.c13_lines_size;
  module_name = m.name.now;
  object_file_name = m.object.now;
}
