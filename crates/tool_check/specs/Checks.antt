-- What is wrong with a file: the refusals of what is read of it, and the faults that end its lists.
use Rattle.std.specs.Prelude.{◌≡◌, ℕ, List, [], ◌∷◌, Bool, true, false, ◌==◌, Option, Some, None, Result, Ok, Err, if◌then◌else◌}
use Rattle.pdb.specs.Error.{Error}
use Rattle.pdb.specs.Error.TheVariants.{StreamNotFound, StreamNameNotFound, GlobalSymbolsNotFound, UnimplementedSymbolKind, IoError, OutOfMemory}
use Rattle.pdb.specs.Refusal.{◌>>=◌}
use Rattle.pdb.specs.Left.{Left}
use Rattle.pdb.specs.Answers.{address_map_in, debug_information_in, frame_table_in, global_symbols_in, information_in, sections_in, string_table_in}
use Rattle.pdb.specs.Contributions.{contributions_in}
use Rattle.pdb.specs.Features.{has_ids_of}
use Rattle.pdb.specs.Data.{Data}
use Rattle.pdb.specs.Forms.{record_at}
use Rattle.pdb.specs.Header.{header_of}
use Rattle.pdb.specs.DBIHeader.{DBIHeader}
use Rattle.pdb.specs.Modules.{ModuleEntry, modules_in}
use Rattle.pdb.specs.Items.{ItemEntry, items_in}
use Rattle.pdb.specs.SymbolList.{Entry, symbols_from}
use Rattle.pdb.specs.LineInfo.{LineInfo}
use Rattle.pdb.specs.Lines.{lines_of}
use Rattle.pdb.specs.Files.{FileOf, files_of}
use Rattle.pdb_records.specs.RecordReading.{further_at}
use Rattle.pdb_types.specs.MemberEnds.{chain_end, is_endless}
use Rattle.pdb_types.specs.MemberLists.{members_of}
use Rattle.pdb_types.specs.TypeSays.{TagSays}
use Rattle.pdb.specs.ModuleStream.{ModuleBytes, line_program_of}
use Rattle.tool_check.specs.declared.file_parts.FilePart.{FilePart}
use Rattle.tool_check.specs.declared.file_parts.FilePart.TheVariants.{Information, DebugInformation, Sections, AddressMap, FrameTable, StringTable}

-- a refusal tells of damage, unless it says that the file has no such name or no global symbols, or that a kind of symbol has no format
abbrev pub is_damage : Error → Bool
is_damage StreamNameNotFound = false
is_damage GlobalSymbolsNotFound = false
is_damage (UnimplementedSymbolKind kind) = false
is_damage e = true

-- the refusal of what is read, where it is refused
abbrev pub refused : {A : Type 0} → Result A Error → Option Error
refused (Ok x) = None
refused (Err e) = Some e

-- the refusal of a symbol's record: one of a kind without a layout of a symbol may be a further record
abbrev pub refused_of : List ℕ → Error → Option Error
refused_of b (UnimplementedSymbolKind kind) = refused (further_at b)
refused_of b e = Some e

abbrev pub refused_by : List ℕ → Result Data Error → Option Error
refused_by b (Ok d) = None
refused_by b (Err e) = refused_of b e

unfoldable pub record_refused : List ℕ → Option Error
record_refused b = refused_by b (record_at b)

-- what a list ends with: its refusal, or its fault
abbrev pub ended_by : {A : Type 0} → Result (Left A) Error → Option Error
ended_by (Ok left) = left.fault
ended_by (Err e) = Some e

-- the items of a list; none where it is refused
abbrev pub items_of : {A : Type 0} → Result (Left A) Error → List A
items_of (Ok left) = left.items
items_of (Err e) = []

-- ---- parts of a file that are whole or have one error

abbrev pub error_of : FilePart → List ℕ → Option Error
error_of Information file = refused (information_in file)
error_of DebugInformation file = refused (debug_information_in file)
error_of Sections file = refused (sections_in file)
error_of AddressMap file = refused (address_map_in file)
error_of FrameTable file = refused (frame_table_in file)
error_of StringTable file = refused (string_table_in file)

-- a call found no error where there is none; else the error, or that the source failed where io holds, or out of memory
abbrev pub IsErrorOf : Type 0 → Option Error → Option Error → Type 0
IsErrorOf io None error = error ≡ None
IsErrorOf io (Some IoError) error = io
IsErrorOf io (Some OutOfMemory) error = Unit {0}
IsErrorOf io (Some e) error = error ≡ Some e

-- ---- what is read of a file

unfoldable pub modules_of_file : List ℕ → Result (Left ModuleEntry) Error
modules_of_file file = debug_information_in file >>= modules_in

-- whether the part with the contributions has no byte
abbrev pub has_no_contributions : Result DBIHeader Error → Bool
has_no_contributions (Ok h) = h.section_contribution_size == 0
has_no_contributions (Err e) = false

-- what the contributions of a DBI stream end with; of no byte there are none
unfoldable pub contributions_ended_by : List ℕ → Option Error
contributions_ended_by b = if has_no_contributions (header_of b) then None else ended_by (contributions_in b)

abbrev pub contributions_ended_in : Result (List ℕ) Error → Option Error
contributions_ended_in (Ok b) = contributions_ended_by b
contributions_ended_in (Err e) = Some e

unfoldable pub global_symbols_of_file : List ℕ → Result (Left Entry) Error
global_symbols_of_file file = global_symbols_in file >>= λ b. Ok (symbols_from b 0)

-- what the items of a stream end with; a stream that isn't there has none
abbrev pub items_ended_by : Result (List ℕ) Error → Option Error
items_ended_by (Ok stream) = ended_by (items_in stream)
items_ended_by (Err (StreamNotFound n)) = None
items_ended_by (Err e) = Some e

-- the fault of the members of what has a tag; what is only declared has none
abbrev pub members_ended_by : List ItemEntry → Option TagSays → Option Error
members_ended_by types None = None
members_ended_by types (Some tag) = if tag.is_forward then None else (members_of types tag.fields.0).fault

-- whether the list of members of what has a tag continues in itself
abbrev pub has_endless_members : List ItemEntry → Option TagSays → Bool
has_endless_members types None = false
has_endless_members types (Some tag) = if tag.is_forward then false else is_endless (chain_end types tag.fields.0)

-- whether the information stream says that stream 4 has ids
unfoldable pub ids_in : List ℕ → Result Bool Error
ids_in file = information_in file >>= λ i. has_ids_of i.bytes i.names_offset i.names_size

abbrev pub is_said : Result Bool Error → Bool
is_said (Ok b) = b
is_said (Err e) = false

-- ---- what is read of a module

unfoldable pub lines_of_module : ModuleBytes → Result (Left LineInfo) Error
lines_of_module m = line_program_of m >>= λ program. Ok (lines_of program.subsections)

unfoldable pub files_of_module : ModuleBytes → Result (Left FileOf) Error
files_of_module m = line_program_of m >>= λ program. Ok (files_of program.checksums)
