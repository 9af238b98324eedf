-- What each accessor answers for a file: a function of the file and of the call's arguments, whatever was called before.
use Rattle.std.specs.Prelude.{◌≡◌, ℕ, true, List, [], ◌∷◌, Option, Some, None, Result, Ok, Err, ◌==◌, if◌then◌else◌, codes}
use Rattle.std.specs.Option.{unwrap_or, option_map}
use Rattle.std.specs.List.{slice_get}
use Rattle.pdb_base.specs.declared.error.Error.{Error}
use Rattle.pdb_base.specs.declared.error.Error.TheVariants.{GlobalSymbolsNotFound, StreamNameNotFound, AddressMapNotFound}
use Rattle.pdb_base.specs.declared.section_header.ImageSectionHeader.{ImageSectionHeader}
use Rattle.pdb_base.specs.SectionHeader.{headers_of}
use Rattle.pdb_base.specs.StringTable.{names_of as names_of_table}
use Rattle.pdb_base.specs.Refusal.{◌>>=◌, Gives}
use Rattle.pdb_base.specs.Source.{State, Continues, MayFail}
use Rattle.pdb_base.specs.Container.{stream_of}
use Rattle.std.specs.List.{find}
use Rattle.std.specs.Result.{result_map_both}
use Rattle.std.specs.Str.{bytes_eq}
use Rattle.pdb_dbi.specs.declared.header.DBIHeader.{DBIHeader}
use Rattle.pdb_dbi.specs.Information.{Information, information_of}
use Rattle.pdb_dbi.specs.Names.{Name, names_of}
use Rattle.pdb_dbi.specs.Header.{header_in, debug_information_of}
use Rattle.pdb_dbi.specs.declared.extra_streams.DBIExtraStreams.{DBIExtraStreams}
use Rattle.pdb_dbi.specs.ExtraStreams.{extra_streams_in}
use Rattle.pdb_dbi.specs.Modules.{ModuleEntry, modules_in}
use Rattle.pdb_base.specs.Left.{Left}
use Rattle.pdb_modules.specs.ModuleStream.{ModuleBytes}
use Rattle.pdb.specs.Tables.{Frames, Addresses, as_original}

-- the information stream, where it has its fields
unfoldable pub information_in : List ℕ → Result Information Error
information_in file = stream_of file 1 None >>= information_of

-- the stream of this number, unless the number is that of no stream
abbrev pub listed_stream : List ℕ → ℕ → Error → Result (List ℕ) Error
listed_stream file n refusal = if n == 0xffff then Err refusal else stream_of file n None

abbrev pub number_of_name : Option Name → Result ℕ Error
number_of_name None = Err StreamNameNotFound
number_of_name (Some n) = Ok n.stream

-- the number of the first name that is this one
abbrev pub number_named : List Name → List ℕ → Result ℕ Error
number_named names name = number_of_name (find (λ n. bytes_eq n.name name) names)

-- the stream of the first name that is this one
unfoldable pub named_stream_in : List ℕ → List ℕ → Result (List ℕ) Error
named_stream_in file name = do
  i ← information_in file
  names ← names_of i.bytes i.names_offset i.names_size
  n ← number_named names name
  listed_stream file n StreamNameNotFound

-- the DBI stream, where it has a header
unfoldable pub debug_information_in : List ℕ → Result (List ℕ) Error
debug_information_in file = stream_of file 3 None >>= debug_information_of

-- the stream of symbol records, by the header in the front of the DBI stream
unfoldable pub global_symbols_in : List ℕ → Result (List ℕ) Error
global_symbols_in file = do
  h ← header_in file (Some 1024)
  listed_stream file h.symbol_records_stream.0 GlobalSymbolsNotFound

abbrev pub some_bytes : List ℕ → Result (Option (List ℕ)) Error
some_bytes bytes = Ok (Some bytes)

-- a stream by its number; none for the number of no stream
unfoldable pub raw_stream_in : List ℕ → ℕ → Result (Option (List ℕ)) Error
raw_stream_in file n = if n == 0xffff then Ok None else stream_of file n None >>= some_bytes

-- the numbers of further streams, by the whole DBI stream
unfoldable pub extra_streams_of_file : List ℕ → Result DBIExtraStreams Error
extra_streams_of_file file = debug_information_in file >>= extra_streams_in

-- the section headers in a stream, where there is one
abbrev pub some_headers : Option (List ℕ) → Result (Option (List ImageSectionHeader)) Error
some_headers None = Ok None
some_headers (Some bytes) = headers_of bytes >>= λ headers. Ok (Some headers)

unfoldable pub headers_in : List ℕ → ℕ → Result (Option (List ImageSectionHeader)) Error
headers_in file n = raw_stream_in file n >>= some_headers

-- the section headers of the image; none where the file names no stream of them
unfoldable pub sections_in : List ℕ → Result (Option (List ImageSectionHeader)) Error
sections_in file = extra_streams_of_file file >>= λ x. headers_in file x.section_headers.0

-- the streams of frame data
unfoldable pub frame_table_in : List ℕ → Result Frames Error
frame_table_in file = do
  x ← extra_streams_of_file file
  old ← raw_stream_in file x.fpo.0
  new ← raw_stream_in file x.framedata.0
  Ok (record { old_stream = old; new_stream = new })

-- the tables of an image that was rearranged; both have to be there
unfoldable pub transformed_in : List ℕ → DBIExtraStreams → List ImageSectionHeader → List ImageSectionHeader → Result Addresses Error
transformed_in file x sections original = do
  from_src ← listed_stream file x.omap_from_src.0 AddressMapNotFound
  to_src ← listed_stream file x.omap_to_src.0 AddressMapNotFound
  Ok (record { original_sections = original; transformed_sections = Some sections; omap_from_src = Some from_src; omap_to_src = Some to_src })

abbrev pub addresses_in : List ℕ → DBIExtraStreams → List ImageSectionHeader → Option (List ImageSectionHeader) → Result Addresses Error
addresses_in file x sections None = Ok (as_original sections)
addresses_in file x sections (Some original) = transformed_in file x sections original

-- the address map: section headers, none read as no section, then the original ones, and where these are there the two tables
unfoldable pub address_map_in : List ℕ → Result Addresses Error
address_map_in file = do
  x ← extra_streams_of_file file
  sections ← headers_in file x.section_headers.0
  original ← headers_in file x.original_section_headers.0
  addresses_in file x (unwrap_or sections []) original

-- the names of the stream `/names`
unfoldable pub string_table_in : List ℕ → Result (List ℕ) Error
string_table_in file = named_stream_in file (codes "/names") >>= names_of_table

-- a module's stream, with the sizes that its record tells; none for a module without one
abbrev pub with_sizes : ModuleEntry → Option (List ℕ) → Option ModuleBytes
with_sizes m bytes = option_map (λ b. record { bytes = b; symbols_size = m.symbols_size; lines_size = m.lines_size; c13_lines_size = m.c13_lines_size }) bytes

unfoldable pub module_info_in : List ℕ → ModuleEntry → Result (Option ModuleBytes) Error
module_info_in file m = raw_stream_in file m.stream >>= λ bytes. Ok (with_sizes m bytes)

-- item k of a list, whatever stands behind it; none where the whole list has at most k items
abbrev pub item_or : {A : Type 0} → Option A → Option Error → Result (Option A) Error
item_or (Some x) fault = Ok (Some x)
item_or None None = Ok None
item_or None (Some e) = Err e

abbrev pub item_at : {A : Type 0} → ℕ → Left A → Result (Option A) Error
item_at k left = item_or (slice_get left.items k) left.fault

-- the module of a file with this place in the list of modules
unfoldable pub module_listed : List ℕ → ℕ → Result (Option ModuleEntry) Error
module_listed file k = debug_information_in file >>= modules_in >>= item_at k

abbrev pub info_listed : List ℕ → Option ModuleEntry → Result (Option ModuleBytes) Error
info_listed file None = Ok None
info_listed file (Some m) = module_info_in file m

-- its stream
unfoldable pub module_of_file : List ℕ → ℕ → Result (Option ModuleBytes) Error
module_of_file file k = module_listed file k >>= info_listed file

-- what is kept of a file is what a reading of it gave
abbrev pub IsKept : {A : Type 0} → Result A Error → Option A → Type 0
IsKept reading None = Unit {0}
IsKept reading (Some x) = reading ≡ Ok x

pub record AreKept (file : List ℕ) (s : Option (List ℕ)) (h : Option DBIHeader) (x : Option DBIExtraStreams) : Type 0 where
  pub debug_stream : IsKept (stream_of file 3 None) s
  pub header : IsKept (header_in file (Some 1024)) h
  pub extra_streams : IsKept (extra_streams_of_file file) x

-- ---- lists of calls

-- a call of an accessor
pub data Call : Type 0 where
  PdbInformation : Call
  NamedStream : (name : List ℕ) → Call
  DebugInformation : Call
  GlobalSymbols : Call
  TypeInformation : Call
  IdInformation : Call
  Sections : Call
  FrameTable : Call
  AddressMap : Call
  StringTable : Call
  ModuleInfo : (listed : ModuleEntry) → Call
  ModuleAt : (place : ℕ) → Call
  RawStream : (number : ℕ) → Call

-- what a contract sees of a call's answer
abbrev pub Seen : Call → Type 0
Seen PdbInformation = Information
Seen (NamedStream name) = List ℕ
Seen DebugInformation = List ℕ
Seen GlobalSymbols = List ℕ
Seen TypeInformation = List ℕ
Seen IdInformation = List ℕ
Seen Sections = Option (List ImageSectionHeader)
Seen FrameTable = Frames
Seen AddressMap = Addresses
Seen StringTable = List ℕ
Seen (ModuleInfo m) = Option ModuleBytes
Seen (ModuleAt k) = Option ModuleBytes
Seen (RawStream n) = Option (List ℕ)

-- what a call answers for a file
abbrev pub answer : List ℕ → (call : Call) → Result (Seen call) Error
answer file PdbInformation = information_in file
answer file (NamedStream name) = named_stream_in file name
answer file DebugInformation = debug_information_in file
answer file GlobalSymbols = global_symbols_in file
answer file TypeInformation = stream_of file 2 None
answer file IdInformation = stream_of file 4 None
answer file Sections = sections_in file
answer file FrameTable = frame_table_in file
answer file AddressMap = address_map_in file
answer file StringTable = string_table_in file
answer file (ModuleInfo m) = module_info_in file m
answer file (ModuleAt k) = module_of_file file k
answer file (RawStream n) = raw_stream_in file n

-- a call that was made: the states before it and behind it, and what it gave
pub record Made : Type 0 where
  pub before : State
  pub behind : State
  pub call : Call
  pub given : Result (Seen call) Error

-- what the contract of an accessor says of a call, which goes on from the state before it
pub record GoesOn (m : Made) : Type 0 where
  pub continues : Continues m.before m.behind
  pub answers : m.behind.told ≡ true → Gives (λ x. x) (MayFail m.before m.behind) m.given (answer m.before.file m.call)

-- a call that gave this, seen by view
abbrev pub made : {X : Type 0} → State → State → (call : Call) → (X → Seen call) → Result X Error → Made
made before behind call view result = record { before = before; behind = behind; call = call; given = result_map_both view (λ e. e) result }

-- calls one after the other, the first from a state
abbrev pub AreMade : State → List Made → Type 0
AreMade old [] = Unit {0}
AreMade old (m ∷ others) = (m.before ≡ old) × GoesOn m × AreMade m.behind others

-- what a call gave is its answer for this file alone, or out of memory, or the failure of its source in that call,
-- where all that was read is the file's
abbrev pub IsAnswered : List ℕ → Made → Type 0
IsAnswered file m = m.behind.told ≡ true → Gives (λ x. x) (MayFail m.before m.behind) m.given (answer file m.call)
