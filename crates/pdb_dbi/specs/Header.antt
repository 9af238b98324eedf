-- The DBI stream's header: its fields by their places.
use Rattle.std.specs.Prelude.{ℕ, List, length, Option, Some, None, Result, Ok, Err, not, nat_lt, ◌==◌, if◌then◌else◌}
use Rattle.pdb_base.specs.declared.error.Error.{Error}
use Rattle.pdb_base.specs.declared.error.Error.TheVariants.{UnexpectedEof, UnimplementedFeature}
use Rattle.pdb_base.specs.declared.error.Feature.TheVariants.{AncientDbiHeader}
use Rattle.pdb_base.specs.Refusal.{◌>>=◌}
use Rattle.pdb_base.specs.Fields.{number}
use Rattle.pdb_base.specs.Container.{stream_of}
use Rattle.pdb_dbi.specs.declared.header.DBIHeader.{DBIHeader}
use Rattle.pdb_dbi.specs.declared.header.HeaderVersion.{HeaderVersion}
use Rattle.pdb_dbi.specs.declared.header.HeaderVersion.TheVariants.{V41, V50, V60, V70, V110, OtherValue}

-- the version of a number, which is a date
abbrev pub version_of : ℕ → HeaderVersion
version_of n =
    if n == 930803 then V41
    else if n == 19960307 then V50
    else if n == 19970606 then V60
    else if n == 19990903 then V70
    else if n == 20091201 then V110
    else OtherValue n

-- the fields of the first 64 bytes
unfoldable pub header_fields : List ℕ → DBIHeader
header_fields b = record {
  signature = number b 0 4;
  version = version_of (number b 4 4);
  age = number b 8 4;
  gs_symbols_stream = record { 0 = number b 12 2 };
  internal_version = number b 14 2;
  ps_symbols_stream = record { 0 = number b 16 2 };
  pdb_dll_build_version = number b 18 2;
  symbol_records_stream = record { 0 = number b 20 2 };
  pdb_dll_rbld_version = number b 22 2;
  module_list_size = number b 24 4;
  section_contribution_size = number b 28 4;
  section_map_size = number b 32 4;
  file_info_size = number b 36 4;
  type_server_map_size = number b 40 4;
  mfc_type_server_index = number b 44 4;
  debug_header_size = number b 48 4;
  ec_substream_size = number b 52 4;
  flags = number b 56 2;
  machine_type = number b 58 2;
  reserved = number b 60 4;
}

-- the header, where its 64 bytes are there and begin with the signature
unfoldable pub header_of : List ℕ → Result DBIHeader Error
header_of b =
    if nat_lt (length b) 64 then Err UnexpectedEof
    else (if not ((header_fields b).signature == 0xffffffff) then Err (UnimplementedFeature AncientDbiHeader)
    else Ok (header_fields b))

-- the bytes of a DBI stream that has a header
unfoldable pub debug_information_of : List ℕ → Result (List ℕ) Error
debug_information_of b = header_of b >>= λ h. Ok b

-- 0 is no age
abbrev pub age_of : ℕ → Option ℕ
age_of n = if n == 0 then None else Some n

-- the age that the header of a DBI stream tells
abbrev pub age_in : List ℕ → Result (Option ℕ) Error
age_in b = header_of b >>= λ h. Ok (age_of h.age)

-- the header in the front of the file's DBI stream, which is stream 3, or in all of it
unfoldable pub header_in : List ℕ → Option ℕ → Result DBIHeader Error
header_in file limit = stream_of file 3 limit >>= header_of
