-- The lines of `check`.
use Rattle.std.specs.Prelude.{ℕ, ◌+◌, List, [], ◌∷◌, ◌++◌, codes, flat_map, Bool, true, false, Option, Some, None, Result, Ok, Err, if◌then◌else◌}
use Rattle.pdb.specs.Error.{Error}
use Rattle.pdb.specs.Annotations.{annotations_of}
use Rattle.pdb.specs.Answers.{debug_information_in, module_info_in}
use Rattle.pdb.specs.Container.{stream_of}
use Rattle.pdb.specs.Data.{Data}
use Rattle.pdb.specs.Data.Data.{InlineSite}
use Rattle.pdb.specs.Forms.{record_at}
use Rattle.pdb.specs.Items.{ItemEntry, items_in}
use Rattle.pdb.specs.Modules.{ModuleEntry}
use Rattle.pdb.specs.ModuleStream.{ModuleBytes, exports_of, imports_of, inlinees_of, symbols_of}
use Rattle.pdb.specs.SymbolList.{Entry}
use Rattle.pdb_resolve.specs.FileParts.{items_where}
use Rattle.pdb_text.specs.Digits.{hex}
use Rattle.pdb_types.specs.FullTypes.{says_of_item}
use Rattle.pdb_types.specs.TypeSays.{TagSays}
use Rattle.tool_check.specs.Checks.{contributions_ended_in, ended_by, error_of, files_of_module, global_symbols_of_file, has_endless_members, ids_in, is_damage, is_said, items_ended_by, items_of, lines_of_module, members_ended_by, modules_of_file, record_refused, refused}
use Rattle.tool_output.specs.Absent.{lacks}
use Rattle.tool_output.specs.ErrorLine.{message_of}
use Rattle.tool_output.specs.FileNames.{names_in}
use Rattle.tool_check.specs.Findings.{Subject, file_subject, line_of, module_subject, sound_in}
use Rattle.tool_types.specs.TypeLines.{tag_said}
use Rattle.tool_check.specs.declared.file_parts.FilePart.{FilePart}
use Rattle.tool_check.specs.declared.file_parts.FilePart.TheVariants.{Information, DebugInformation, Sections, AddressMap, FrameTable, StringTable}
use Rattle.tool_arguments.specs.declared.options.OutputFormat.{OutputFormat}

-- where the refusal tells of damage
abbrev pub damage_text : Subject → List ℕ → Error → List ℕ
damage_text subject label e = if is_damage e then line_of subject label (message_of e) else []

-- of a refusal or a fault, where there is one
abbrev pub fault_text : Subject → List ℕ → Option Error → List ℕ
fault_text subject label None = []
fault_text subject label (Some e) = damage_text subject label e

-- ---- symbols

-- a word, and an index
abbrev pub at_index : List ℕ → ℕ → List ℕ
at_index word index = word ++ hex 8 index

-- of the refusal of a symbol's record
abbrev pub record_text : Subject → List ℕ → Entry → List ℕ
record_text subject word s = fault_text subject (at_index word s.index) (record_refused s.bytes)

-- of the fault of the annotations of an inline site at an index
abbrev pub site_text : Subject → ℕ → Result Data Error → List ℕ
site_text subject index (Ok (InlineSite s)) = fault_text subject (at_index (codes " site ") index) (annotations_of s.annotations).fault
site_text subject index r = []

-- of a symbol of a module
unfoldable pub symbol_text : Subject → Entry → List ℕ
symbol_text subject s = record_text subject (codes " symbol ") s ++ site_text subject s.index (record_at s.bytes)

-- ---- modules

unfoldable pub symbols_text : Subject → ModuleBytes → List ℕ
symbols_text subject m = fault_text subject (codes " symbols") (ended_by (symbols_of m)) ++ flat_map (symbol_text subject) (items_of (symbols_of m))

-- of the lists of line records and of files
unfoldable pub lines_text : Subject → ModuleBytes → List ℕ
lines_text subject m = fault_text subject (codes " lines") (ended_by (lines_of_module m)) ++ fault_text subject (codes " files") (ended_by (files_of_module m))

-- of inlined functions, and of what is imported and exported
unfoldable pub others_text : Subject → ModuleBytes → List ℕ
others_text subject m =
    fault_text subject (codes " inlined functions") (ended_by (inlinees_of m))
    ++ fault_text subject (codes " imports") (refused (imports_of m))
    ++ fault_text subject (codes " exports") (refused (exports_of m))

abbrev pub parts_text : Subject → ModuleBytes → List ℕ
parts_text subject m = symbols_text subject m ++ lines_text subject m ++ others_text subject m

-- of what was read of a module; nothing where it has no stream
abbrev pub stream_text : Subject → Result (Option ModuleBytes) Error → List ℕ
stream_text subject (Ok None) = []
stream_text subject (Ok (Some m)) = parts_text subject m
stream_text subject (Err e) = damage_text subject [] e

-- of the module of this number
unfoldable pub module_text : OutputFormat → List ℕ → List ℕ → ℕ → ModuleEntry → List ℕ
module_text format name file k m = stream_text (module_subject format name k) (module_info_in file m)

-- of modules of which the first has this number
abbrev pub modules_text : OutputFormat → List ℕ → List ℕ → ℕ → List ModuleEntry → List ℕ
modules_text format name file k [] = []
modules_text format name file k (m ∷ ms) = module_text format name file k m ++ modules_text format name file (k + 1) ms

-- ---- a file

-- what the line of a part's error begins with
abbrev pub part_label : FilePart → List ℕ
part_label Information = codes "information"
part_label DebugInformation = codes "debug information"
part_label Sections = codes "sections"
part_label AddressMap = codes "address map"
part_label FrameTable = codes "frame table"
part_label StringTable = codes "string table"

unfoldable pub part_text : Subject → FilePart → List ℕ → List ℕ
part_text subject part file = fault_text subject (part_label part) (error_of part file)

-- of the information stream and the names of streams
unfoldable pub first_text : Subject → List ℕ → List ℕ
first_text subject file = part_text subject Information file ++ fault_text subject (codes "names") (refused (names_in file))

-- of the lists of the DBI stream
unfoldable pub lists_text : Subject → List ℕ → List ℕ
lists_text subject file = fault_text subject (codes "modules") (ended_by (modules_of_file file)) ++ fault_text subject (codes "contributions") (contributions_ended_in (debug_information_in file))

-- of the list of global symbols, and of each of them
unfoldable pub listed_globals_text : Subject → List ℕ → List ℕ → List ℕ → List ℕ
listed_globals_text subject label word file =
    fault_text subject label (ended_by (global_symbols_of_file file))
    ++ flat_map (record_text subject word) (items_of (global_symbols_of_file file))

unfoldable pub globals_text : Subject → List ℕ → List ℕ
globals_text subject file = listed_globals_text subject (codes "global symbols") (codes "global symbol ") file

-- a text, unless what it is of isn't there
abbrev pub unless : Bool → List ℕ → List ℕ
unless true text = []
unless false text = text

-- of a list of members that continues in itself
abbrev pub endless_text : Subject → List ℕ → Bool → List ℕ
endless_text subject label false = []
endless_text subject label true = line_of subject label (codes "the list of members continues in itself")

-- of the members of what has a tag
abbrev pub members_text : Subject → List ℕ → List ItemEntry → Option TagSays → List ℕ
members_text subject label types tag = fault_text subject label (members_ended_by types tag) ++ endless_text subject label (has_endless_members types tag)

-- of the members of a type
abbrev pub type_text : Subject → List ItemEntry → ItemEntry → List ℕ
type_text subject types x = members_text subject (at_index (codes "type ") x.index) types (tag_said (says_of_item (Some x)))

-- of the members of the types of a stream
unfoldable pub type_texts : Subject → List ℕ → List ℕ
type_texts subject b = flat_map (type_text subject (items_where (Some b))) (items_of (items_in b))

-- of a stream of types
abbrev pub listed_types_text : Subject → List ℕ → Result (List ℕ) Error → List ℕ
listed_types_text subject label (Ok b) = fault_text subject label (items_ended_by (Ok b)) ++ type_texts subject b
listed_types_text subject label (Err e) = fault_text subject label (items_ended_by (Err e))

unfoldable pub types_text : Subject → List ℕ → List ℕ
types_text subject file = listed_types_text subject (codes "types") (stream_of file 2 None)

-- of ids, where the information stream says that they are there
unfoldable pub ids_text : Subject → List ℕ → List ℕ
ids_text subject file = if is_said (ids_in file) then fault_text subject (codes "ids") (items_ended_by (stream_of file 4 None)) else []

-- of types and ids
unfoldable pub items_text : Subject → List ℕ → List ℕ
items_text subject file = types_text subject file ++ ids_text subject file

-- of the DBI stream, and of what its lists and its streams say of the image
unfoldable pub debug_parts_text : Subject → List ℕ → List ℕ
debug_parts_text subject file =
    part_text subject DebugInformation file
    ++ lists_text subject file
    ++ part_text subject Sections file
    ++ part_text subject AddressMap file
    ++ part_text subject FrameTable file

-- of the streams up to the frame table, by whether the DBI stream isn't there
unfoldable pub streams_text : Bool → Subject → List ℕ → List ℕ
streams_text is_empty subject file = first_text subject file ++ unless is_empty (debug_parts_text subject file)

-- of the others
unfoldable pub tables_text : Bool → Subject → List ℕ → List ℕ
tables_text is_empty subject file = part_text subject StringTable file ++ unless is_empty (globals_text subject file) ++ items_text subject file

-- of all but the modules
abbrev pub file_text : Subject → List ℕ → List ℕ
file_text subject file = streams_text (lacks file 3) subject file ++ tables_text (lacks file 3) subject file

-- all lines of what is wrong
unfoldable pub findings_text : OutputFormat → List ℕ → List ℕ → List ℕ
findings_text format name file = file_text (file_subject format name) file ++ modules_text format name file 0 (items_of (modules_of_file file))

abbrev pub is_nothing : List ℕ → Bool
is_nothing [] = true
is_nothing (c ∷ cs) = false

-- the text of a file: what is wrong, or that nothing is
abbrev pub check_text : OutputFormat → List ℕ → List ℕ → List ℕ
check_text format name file = if is_nothing (findings_text format name file) then sound_in format name else findings_text format name file
