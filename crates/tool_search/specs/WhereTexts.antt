-- The text of `where`: which addresses lines of source files have.
use Rattle.std.specs.Prelude.{ℕ, List, [], ◌∷◌, ◌++◌, Bool, false, ◌&&◌, if◌then◌else◌, codes, flat_map, Option, Some, None, Result, Ok}
use Rattle.std.specs.Option.{option_map, option_or, unwrap_or}
use Rattle.std.specs.Fmt.{decimal}
use Rattle.pdb.specs.Error.{Error}
use Rattle.pdb.specs.Left.{Left}
use Rattle.pdb.specs.Data.{Data}
use Rattle.pdb.specs.Data.Data.{InlineSite}
use Rattle.pdb.specs.Forms.{record_at}
use Rattle.pdb.specs.SymbolList.{Entry}
use Rattle.pdb.specs.Items.{ItemEntry}
use Rattle.pdb.specs.Inlinees.{InlineeEntry, inlinee_with}
use Rattle.pdb.specs.LineInfo.{LineInfo}
use Rattle.pdb.specs.LineProgram.{ProgramOf}
use Rattle.pdb.specs.Lines.{lines_of}
use Rattle.pdb.specs.ModuleStream.{ModuleBytes, inlinees_of, line_program_of, symbols_of}
use Rattle.pdb.specs.Qualified.{Qualified}
use Rattle.pdb.specs.Tables.{Addresses}
use Rattle.pdb.specs.Answers.{address_map_in, string_table_in}
use Rattle.pdb_places.specs.AsIfEmpty.{if_read}
use Rattle.pdb_resolve.specs.FileParts.{items_listed}
use Rattle.pdb_resolve.specs.AcrossModules.{call_name}
use Rattle.pdb_resolve.specs.Frames.{file_in, file_name, file_text, name_text}
use Rattle.pdb_code.specs.Namings.{plain}
use Rattle.pdb_code.specs.ModuleCode.{inlinees_in, name_at, program_in}
use Rattle.tool_output.specs.ErrorObjects.{fault_of, list_fault_of, told_of}
use Rattle.tool_search.specs.FindTexts.{Parent, has_bytes, parent_said, site_records, stretch_text}
use Rattle.tool_search.specs.FoundObjects.{where_value}
use Rattle.tool_output.specs.Objects.{json_line}
use Rattle.tool_arguments.specs.SourcesAsked.{SourceOf, asks_for}
use Rattle.tool_arguments.specs.declared.options.OutputFormat.{OutputFormat}
use Rattle.tool_arguments.specs.declared.options.OutputFormat.TheVariants.{Text, Json as Objects}

-- the format of the lines, what is asked for, and what names and addresses are read from
pub record Asking : Type 0 where
  pub format : OutputFormat
  pub asked : List SourceOf
  pub strings : Option (List ℕ)
  pub ids : List ItemEntry
  pub types : List ItemEntry
  pub addresses : Option Addresses

-- FILE:LINE:COLUMN of a record
abbrev pub position_text : Option (List ℕ) → LineInfo → List ℕ
position_text file r = file_text file ++ codes ":" ++ decimal r.line_start ++ codes ":" ++ decimal (unwrap_or r.column_start 0)

unfoldable pub where_line : List ℕ → Option Addresses → LineInfo → Option (List ℕ) → Option Qualified → List ℕ
where_line kind addresses r file name = kind ++ codes " " ++ stretch_text addresses r.offset r.length ++ codes " " ++ position_text file r ++ codes " " ++ name_text name ++ codes "\n"

-- the same in a format
abbrev pub where_line_in : OutputFormat → List ℕ → Option Addresses → LineInfo → Option (List ℕ) → Option Qualified → List ℕ
where_line_in Text kind addresses r file name = where_line kind addresses r file name
where_line_in Objects kind addresses r file name = json_line (where_value kind addresses r file name)

-- a record's file and line are asked for
abbrev pub asks_for_file : List SourceOf → Option (List ℕ) → ℕ → Bool
asks_for_file asked None line = false
asks_for_file asked (Some name) line = asks_for asked name line

-- the file of a record
abbrev pub file_of_record : Asking → Option ProgramOf → LineInfo → Option (List ℕ)
file_of_record a program r = file_name a.strings (file_in program r.file_index.0)

-- a record has bytes, and is asked for
abbrev pub is_wanted : Asking → Option ProgramOf → LineInfo → Bool
is_wanted a program r = has_bytes r && asks_for_file a.asked (file_of_record a program r) r.line_start

-- ---- line records

abbrev pub record_text : Asking → ModuleBytes → ProgramOf → LineInfo → List ℕ
record_text a m program r =
    if is_wanted a (Some program) r then where_line_in a.format (codes "line") a.addresses r (file_of_record a (Some program) r) (option_map plain (name_at r.offset m)) else []

-- of module k
abbrev pub records_text : Asking → ℕ → ModuleBytes → ProgramOf → Left LineInfo → List ℕ
records_text a k m program left = flat_map (record_text a m program) left.items ++ fault_of a.format k left.fault

unfoldable pub lines_text : Asking → ℕ → ModuleBytes → List ℕ
lines_text a k m = told_of a.format k (line_program_of m) (λ program. records_text a k m program (lines_of program.subsections))

-- ---- records of inlined calls; names has the name of an inlined function by the id of its call

abbrev pub call_text : Asking → Option ProgramOf → Option Qualified → LineInfo → List ℕ
call_text a program name r = if is_wanted a program r then where_line_in a.format (codes "inlined") a.addresses r (file_of_record a program r) name else []

abbrev pub site_text : Asking → Option ProgramOf → (ℕ → Option Qualified) → (ℕ → Option InlineeEntry) → Option Parent → ℕ → Result Data Error → List ℕ
site_text a program names known c index (Ok (InlineSite s)) = flat_map (call_text a program (names s.inlinee.0)) (site_records known c index s.inlinee.0 s.annotations)
site_text a program names known c index r = []

-- those of symbols, of which the last procedure before is given
abbrev pub sites_text : Asking → Option ProgramOf → (ℕ → Option Qualified) → (ℕ → Option InlineeEntry) → Option Parent → List Entry → List ℕ
sites_text a program names known c [] = []
sites_text a program names known c (s ∷ ss) = site_text a program names known c s.index (record_at s.bytes) ++ sites_text a program names known (option_or (parent_said (record_at s.bytes)) c) ss

-- of module k
abbrev pub sites_left_text : Asking → ℕ → Option ProgramOf → (ℕ → Option Qualified) → (ℕ → Option InlineeEntry) → Option Parent → Left Entry → List ℕ
sites_left_text a k program names known c left = sites_text a program names known c left.items ++ fault_of a.format k left.fault

unfoldable pub calls_text : Asking → ℕ → (ℕ → Option Qualified) → ModuleBytes → List ℕ
calls_text a k names m =
    told_of a.format k (symbols_of m) (λ left. sites_left_text a k (program_in m) names (inlinee_with (inlinees_in m)) None left ++ list_fault_of a.format k (inlinees_of m))

-- ---- the command

unfoldable pub where_text : Asking → ℕ → (ℕ → Option Qualified) → ModuleBytes → List ℕ
where_text a k names m = lines_text a k m ++ calls_text a k names m

-- of module k of a file
abbrev pub where_in : Asking → List ℕ → ℕ → ModuleBytes → List ℕ
where_in a file k m = where_text a k (call_name a.ids a.types file m) m

abbrev pub asking_in : OutputFormat → List ℕ → List SourceOf → Asking
asking_in format file asked = record { format = format; asked = asked; strings = if_read (string_table_in file); ids = items_listed file 4; types = items_listed file 2; addresses = if_read (address_map_in file) }
