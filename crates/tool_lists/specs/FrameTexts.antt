-- The text of `frames`: the records of the streams of frame data.
use Rattle.std.specs.Prelude.{ℕ, ◌/◌, List, [], ◌∷◌, ◌++◌, codes, flat_map, length, Bool, Option, Some, None, Result, Ok, Err, if◌then◌else◌}
use Rattle.std.specs.Fmt.{decimal}
use Rattle.std.specs.List.{range_with_len}
use Rattle.json.specs.Json.{Json, boolean, object, Members, no_members, member}
use Rattle.pdb.specs.Answers.{frame_table_in, string_table_in}
use Rattle.pdb.specs.Error.{Error}
use Rattle.pdb.specs.Tables.{Frames}
use Rattle.pdb_base.specs.Fields.{cstring_at}
use Rattle.pdb_base.specs.declared.index.StringRef.{StringRef}
use Rattle.pdb_frames.specs.Frames.{fpo_at, frame_data_at}
use Rattle.pdb_frames.specs.declared.frame_data.FrameData.{FrameData}
use Rattle.pdb_frames.specs.declared.frame_data.FrameType.{FrameType}
use Rattle.pdb_frames.specs.declared.frame_data.FrameType.TheVariants as kinds
use Rattle.pdb_places.specs.AsIfEmpty.{if_read}
use Rattle.tool_fields.specs.FieldTexts.{field}
use Rattle.tool_fields.specs.Values.{address_text, behind_blank}
use Rattle.tool_output.specs.Absent.{if_there}
use Rattle.tool_output.specs.ErrorObjects.{none_in, told_in}
use Rattle.tool_output.specs.Objects.{json_line, known_value, number_value, text_value}
use Rattle.tool_arguments.specs.declared.options.OutputFormat.{OutputFormat}
use Rattle.tool_arguments.specs.declared.options.OutputFormat.TheVariants.{Text, Json as Objects}

abbrev pub kind_word : FrameType → List ℕ
kind_word kinds.Fpo = codes "fpo"
kind_word kinds.Trap = codes "trap"
kind_word kinds.Tss = codes "tss"
kind_word kinds.Standard = codes "standard"
kind_word kinds.FrameData = codes "framedata"

-- ---- the program that undoes a frame

abbrev pub or_empty : Result (List ℕ) Error → List ℕ
or_empty (Ok bytes) = bytes
or_empty (Err e) = []

-- no bytes where the record has none, or the string table hasn't it
abbrev pub program_of : Option (List ℕ) → Option StringRef → List ℕ
program_of strings None = []
program_of None (Some at) = []
program_of (Some names) (Some at) = or_empty (cstring_at names at.0)

abbrev pub shown_program : List ℕ → List ℕ
shown_program [] = codes " ??"
shown_program (b ∷ bytes) = behind_blank (b ∷ bytes)

abbrev pub program_text : Option StringRef → List ℕ → List ℕ
program_text None text = []
program_text (Some at) text = shown_program text

-- ---- the line of a record

-- sizes are in bytes
unfoldable pub sizes_text : FrameData → List ℕ
sizes_text f =
    field (codes "locals") (decimal f.locals_size) ++ field (codes "params") (decimal f.params_size) ++ field (codes "saved") (decimal f.saved_regs_size) ++ field (codes "prolog") (decimal f.prolog_size) ++ field (codes "max") (decimal f.max_stack_size)

abbrev pub flag_text : Bool → List ℕ → List ℕ
flag_text is_so word = if is_so then word else []

unfoldable pub flags_text : FrameData → List ℕ
flags_text f =
    flag_text f.has_structured_eh (codes " seh") ++ flag_text f.has_cpp_eh (codes " eh") ++ flag_text f.is_function_start (codes " start") ++ flag_text f.uses_base_pointer (codes " bp")

-- its address, its size, its kind, the sizes of its parts, and its program
unfoldable pub frame_line : Option (List ℕ) → FrameData → List ℕ
frame_line strings f =
    address_text (Some f.code_start) ++ codes " " ++ decimal f.code_size ++ codes " " ++ kind_word f.frame_type ++ sizes_text f ++ flags_text f ++ program_text f.program (program_of strings f.program) ++ codes "\n"

-- ---- the same as a JSON object

abbrev pub program_member : List ℕ → Members
program_member program = member (codes "program") (known_value program) no_members

abbrev pub last_flag_members : FrameData → List ℕ → Members
last_flag_members f program =
    member (codes "start") (boolean f.is_function_start)
    (member (codes "bp") (boolean f.uses_base_pointer) (program_member program))

unfoldable pub flag_members : FrameData → List ℕ → Members
flag_members f program =
    member (codes "seh") (boolean f.has_structured_eh)
    (member (codes "eh") (boolean f.has_cpp_eh) (last_flag_members f program))

unfoldable pub max_members : FrameData → List ℕ → Members
max_members f program = member (codes "max") (number_value f.max_stack_size) (flag_members f program)

unfoldable pub prolog_members : FrameData → List ℕ → Members
prolog_members f program = member (codes "prolog") (number_value f.prolog_size) (max_members f program)

unfoldable pub saved_members : FrameData → List ℕ → Members
saved_members f program = member (codes "saved") (number_value f.saved_regs_size) (prolog_members f program)

unfoldable pub param_members : FrameData → List ℕ → Members
param_members f program = member (codes "params") (number_value f.params_size) (saved_members f program)

unfoldable pub size_members : FrameData → List ℕ → Members
size_members f program = member (codes "locals") (number_value f.locals_size) (param_members f program)

abbrev pub piece_members : FrameData → List ℕ → Members
piece_members f program = member (codes "size") (number_value f.code_size) (member (codes "kind") (text_value (kind_word f.frame_type)) (size_members f program))

abbrev pub frame_value : FrameData → List ℕ → Json
frame_value f program = object (member (codes "rva") (number_value f.code_start) (piece_members f program))

abbrev pub frame_line_in : OutputFormat → Option (List ℕ) → FrameData → List ℕ
frame_line_in Text strings f = frame_line strings f
frame_line_in Objects strings f = json_line (frame_value f (program_of strings f.program))

-- ---- all records

-- record k of `FRAMEDATA`, and of `FPO_DATA`, which has no program
abbrev pub newer_line : OutputFormat → Option (List ℕ) → List ℕ → ℕ → List ℕ
newer_line format strings b k = frame_line_in format strings (frame_data_at b k)

abbrev pub older_line : OutputFormat → List ℕ → ℕ → List ℕ
older_line format b k = frame_line_in format None (fpo_at b k)

-- each whole 32 bytes of `FRAMEDATA`
abbrev pub frame_data_lines : OutputFormat → Option (List ℕ) → List ℕ → List ℕ
frame_data_lines format strings b = flat_map (newer_line format strings b) (range_with_len 0 (length b / 32))

-- each whole 16 bytes of `FPO_DATA`
abbrev pub fpo_lines : OutputFormat → List ℕ → List ℕ
fpo_lines format b = flat_map (older_line format b) (range_with_len 0 (length b / 16))

abbrev pub lines_of_new : OutputFormat → Option (List ℕ) → Option (List ℕ) → List ℕ
lines_of_new format strings None = []
lines_of_new format strings (Some b) = frame_data_lines format strings b

abbrev pub lines_of_old : OutputFormat → Option (List ℕ) → List ℕ
lines_of_old format None = []
lines_of_old format (Some b) = fpo_lines format b

abbrev pub both_lines : OutputFormat → Option (List ℕ) → Option (List ℕ) → Option (List ℕ) → List ℕ
both_lines format strings None None = none_in format
both_lines format strings new old = lines_of_new format strings new ++ lines_of_old format old

-- the records with programs, and then the others; the line of what isn't there where the file has neither stream
abbrev pub table_text : OutputFormat → Option (List ℕ) → Frames → List ℕ
table_text format strings t = both_lines format strings t.new_stream t.old_stream

unfoldable pub frames_command : OutputFormat → List ℕ → List ℕ
frames_command format file = if_there file 3 (told_in format (frame_table_in file) (table_text format (if_read (string_table_in file))))
