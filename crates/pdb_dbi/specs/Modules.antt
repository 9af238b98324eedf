-- The list of modules: records that stand one after another.
use Rattle.std.specs.Prelude.{ℕ, ◌+◌, ◌-◌, ◌≤◌, List, length, Result, Ok}
use Rattle.pdb_base.specs.declared.error.Error.{Error}
use Rattle.pdb_base.specs.Refusal.{◌>>=◌}
use Rattle.pdb_base.specs.Fields.{number, bytes_at, cstring_at, aligned_at, padding}
use Rattle.pdb_base.specs.Left.{Left}
use Rattle.pdb_base.specs.Places.{IsNumber, IsCString}
use Rattle.pdb_base.specs.Tiling.{Row, listing}
use Rattle.pdb_base.specs.Reading.{read_row}
use Rattle.pdb_dbi.specs.declared.header.DBIHeader.{DBIHeader}
use Rattle.pdb_dbi.specs.Header.{header_of}

-- a module: the number of its stream, the sizes of that stream's parts, and its names
pub record ModuleEntry : Type 0 where
  pub stream : ℕ
  pub symbols_size : ℕ
  pub lines_size : ℕ
  pub c13_lines_size : ℕ
  pub module_name : List ℕ
  pub object_file_name : List ℕ

-- the module of a record's 64 bytes and its names
abbrev pub module_entry : List ℕ → List ℕ → List ℕ → ModuleEntry
module_entry fixed name object = record {
  stream = number fixed 34 2;
  symbols_size = number fixed 36 4;
  lines_size = number fixed 40 4;
  c13_lines_size = number fixed 44 4;
  module_name = name;
  object_file_name = object;
}

-- where the names of the module at p end
abbrev pub names_end : ℕ → ModuleEntry → ℕ
names_end p m = p + 66 + length m.module_name + length m.object_file_name

-- the module at p: 64 bytes, two names that end with a zero byte, and padding to a multiple of four
unfoldable pub module_at : List ℕ → ℕ → Result ModuleEntry Error
module_at b p = do
  fixed ← bytes_at b p 64
  name ← cstring_at b (p + 64)
  object ← cstring_at b (p + 65 + length name)
  padded ← aligned_at b (p + 66 + length name + length object) 4
  Ok (module_entry fixed name object)

-- how many bytes it takes, its padding among them
abbrev pub module_length : ℕ → ModuleEntry → ℕ
module_length p m = names_end p m + padding (names_end p m) 4 - p

abbrev pub modules : Row ModuleEntry
modules = read_row module_at module_length

-- the modules of a list's bytes
abbrev pub modules_of : List ℕ → Left ModuleEntry
modules_of list = listing modules list 0

-- the module list of a DBI stream, which stands behind the header
abbrev pub module_list_at : DBIHeader → List ℕ → Result (List ℕ) Error
module_list_at h b = bytes_at b 64 h.module_list_size

unfoldable pub module_list_of : List ℕ → Result (List ℕ) Error
module_list_of b = header_of b >>= λ h. module_list_at h b

-- the modules of a DBI stream
unfoldable pub modules_in : List ℕ → Result (Left ModuleEntry) Error
modules_in b = module_list_of b >>= λ list. Ok (modules_of list)

-- m is the module of the bytes at p, by the places of its fields
pub record IsModule (b : List ℕ) (p : ℕ) (m : ModuleEntry) : Type 0 where
  pub stream : IsNumber b (p + 34) 2 m.stream
  pub symbols_size : IsNumber b (p + 36) 4 m.symbols_size
  pub lines_size : IsNumber b (p + 40) 4 m.lines_size
  pub c13_lines_size : IsNumber b (p + 44) 4 m.c13_lines_size
  pub module_name : IsCString b (p + 64) m.module_name
  pub object_file_name : IsCString b (p + 65 + length m.module_name) m.object_file_name
  pub padded : names_end p m + padding (names_end p m) 4 ≤ length b
