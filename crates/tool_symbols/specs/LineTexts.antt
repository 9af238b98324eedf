-- The text of `lines` of a module.
use Rattle.std.specs.Prelude.{ℕ, List, ◌++◌, flat_map, codes, Option, Some}
use Rattle.std.specs.Option.{unwrap_or}
use Rattle.std.specs.Fmt.{decimal}
use Rattle.pdb.specs.Left.{Left}
use Rattle.pdb.specs.LineInfo.{LineInfo}
use Rattle.pdb.specs.LineProgram.{ProgramOf}
use Rattle.pdb.specs.Lines.{lines_of}
use Rattle.pdb.specs.ModuleStream.{ModuleBytes, line_program_of}
use Rattle.pdb_resolve.specs.Frames.{file_name, file_in, file_text}
use Rattle.tool_output.specs.ErrorLine.{fault_line, told}
use Rattle.tool_fields.specs.Values.{place_text, optional_text}

-- the file of a record, as a frame has it
abbrev pub record_file : Option (List ℕ) → ProgramOf → LineInfo → List ℕ
record_file strings program r = file_text (file_name strings (file_in (Some program) r.file_index.0))

-- the line of a record
unfoldable pub record_line : Option (List ℕ) → ProgramOf → LineInfo → List ℕ
record_line strings program r =
    place_text r.offset ++ codes " " ++ optional_text r.length ++ codes " " ++ record_file strings program r ++ codes ":" ++ decimal r.line_start ++ codes ":" ++ decimal (unwrap_or r.column_start 0) ++ codes "\n"

-- the lines of records, and then that of their fault
abbrev pub records_text : Option (List ℕ) → ProgramOf → Left LineInfo → List ℕ
records_text strings program left = flat_map (record_line strings program) left.items ++ fault_line left.fault

unfoldable pub lines_text : Option (List ℕ) → ModuleBytes → List ℕ
lines_text strings m = told (line_program_of m) (λ program. records_text strings program (lines_of program.subsections))
