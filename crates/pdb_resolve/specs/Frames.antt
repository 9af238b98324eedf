-- The frames of a place, from the innermost outwards, and their text.
use Rattle.std.specs.Prelude.{ℕ, ◌==◌, if◌then◌else◌, List, [], ◌∷◌, ◌++◌, ◌-◌, map, flat_map, reverse, codes, Option, Some, None}
use Rattle.std.specs.Option.{option_map, unwrap_or}
use Rattle.std.specs.Fmt.{decimal}
use Rattle.pdb_text.specs.Digits.{short_hex}
use Rattle.pdb.specs.Fields.{cstring_at}
use Rattle.pdb.specs.PdbInternalSectionOffset.{PdbInternalSectionOffset}
use Rattle.pdb.specs.Items.{ItemEntry}
use Rattle.pdb.specs.Qualified.{Qualified, qualified_of}
use Rattle.pdb.specs.ModuleStream.{ModuleBytes}
use Rattle.pdb.specs.LineInfo.{LineInfo}
use Rattle.pdb.specs.LineProgram.{ProgramOf}
use Rattle.pdb.specs.Files.{FileOf, file_at}
use Rattle.pdb_text.specs.OneLine.{one_line}
use Rattle.pdb_places.specs.AsIfEmpty.{if_read}
use Rattle.pdb_code.specs.ModuleCode.{program_in, Call, Named, unnamed, named_in, function_at, line_at, inlined_at}
use Rattle.pdb_code.specs.Namings.{plain}

-- a frame: its function, with the name before it, how far the place is behind the record that has the name, its file, and its line and column
pub record Frame : Type 0 where
  pub name : Option Qualified
  pub displacement : Option ℕ
  pub file : Option (List ℕ)
  pub line : ℕ
  pub column : ℕ

-- what the names of inlined functions and of files are read from: ids, types, and the names of the string table
pub record Names : Type 0 where
  pub ids : List ItemEntry
  pub types : List ItemEntry
  pub strings : Option (List ℕ)

-- ---- the file of a record

-- the name at a place of the string table, where it is there
abbrev pub string_in : Option (List ℕ) → ℕ → Option (List ℕ)
string_in None place = None
string_in (Some names) place = if_read (cstring_at names place)

abbrev pub file_name : Option (List ℕ) → Option FileOf → Option (List ℕ)
file_name strings None = None
file_name strings (Some file) = string_in strings file.name

-- the file of an index in a line program, where it is there
abbrev pub file_in : Option ProgramOf → ℕ → Option FileOf
file_in None index = None
file_in (Some program) index = if_read (file_at program.checksums index)

-- ---- frames

-- a frame with a line record, and without one
abbrev pub frame_of : Option (List ℕ) → Option ProgramOf → Option Qualified → Option ℕ → Option LineInfo → Frame
frame_of strings program name displacement None = record { name = name; displacement = displacement; file = None; line = 0; column = 0 }
frame_of strings program name displacement (Some r) = record {
  name = name;
  displacement = displacement;
  file = file_name strings (file_in program r.file_index.0);
  line = r.line_start;
  column = unwrap_or r.column_start 0;
}

-- the name of a function, by the id that the whole file knows, where there is one
abbrev pub named_id : List ItemEntry → List ItemEntry → Option ℕ → Option Qualified
named_id ids types None = None
named_id ids types (Some id) = qualified_of ids types id

-- of a function that was inlined, where global_id has the id that the whole file knows by one in the module
abbrev pub inlined_frame : Names → (ℕ → Option ℕ) → Option ProgramOf → Call → Frame
inlined_frame n global_id program c = frame_of n.strings program (named_id n.ids n.types (global_id c.id)) None (Some c.line)

-- how far a place is behind what names its code
abbrev pub displacement_from : PdbInternalSectionOffset → Named → Option ℕ
displacement_from q n = option_map (λ start. q.offset - start) n.start

abbrev pub frame_named_by : Option (List ℕ) → Option ProgramOf → PdbInternalSectionOffset → Named → Option LineInfo → Frame
frame_named_by strings program q n line = frame_of strings program (option_map plain n.name) (displacement_from q n) line

-- what names the function at a place; where no function is there, what else does
abbrev pub named_or : Named → Option Named → Option ℕ → Named
named_or other function None = other
named_or other function (Some index) = unwrap_or function unnamed

abbrev pub outer_named : Named → PdbInternalSectionOffset → ModuleBytes → Named
outer_named other q m = named_or other (named_in m (function_at q m)) (function_at q m)

abbrev pub outer_frame : Names → Named → PdbInternalSectionOffset → ModuleBytes → Frame
outer_frame n other q m = frame_named_by n.strings (program_in m) q (outer_named other q m) (line_at q m)

-- the inlined frames from the last site to the first, and then that of the function
unfoldable pub frames_in : Names → (ℕ → Option ℕ) → Named → PdbInternalSectionOffset → ModuleBytes → List Frame
frames_in n global_id other q m = map (inlined_frame n global_id (program_in m)) (reverse (inlined_at q m)) ++ outer_frame n other q m ∷ []

-- where no module's code is there
abbrev pub frame_without : PdbInternalSectionOffset → Named → Frame
frame_without q other = frame_named_by None None q other None

-- where no place is there
abbrev pub no_frame : Frame
no_frame = frame_of None None None None None

-- ---- text

abbrev pub scope_text : Option (List ℕ) → List ℕ
scope_text None = []
scope_text (Some scope) = scope ++ codes "::"

abbrev pub qualified_text : Option Qualified → List ℕ
qualified_text None = codes "??"
qualified_text (Some name) = scope_text name.scope ++ name.name

-- a name on one line; `??` where it is empty
abbrev pub known_text : List ℕ → List ℕ
known_text [] = codes "??"
known_text (b ∷ name) = one_line (b ∷ name)

abbrev pub file_text : Option (List ℕ) → List ℕ
file_text None = codes "??"
file_text (Some name) = known_text name

-- behind what stands before it
abbrev pub scoped_text : Option (List ℕ) → List ℕ → List ℕ
scoped_text None name = known_text name
scoped_text (Some scope) name = one_line scope ++ codes "::" ++ one_line name

abbrev pub name_text : Option Qualified → List ℕ
name_text None = codes "??"
name_text (Some name) = scoped_text name.scope name.name

-- `+0x` and how far the place is behind what has the name, where it is
abbrev pub displacement_text : Option ℕ → List ℕ
displacement_text None = []
displacement_text (Some n) = if n == 0 then [] else codes "+0x" ++ short_hex n

-- the name, what stands behind it, and FILE:LINE:COLUMN, each with a line end
abbrev pub frame_lines : List ℕ → Frame → List ℕ
frame_lines behind f = name_text f.name ++ behind ++ codes "\n" ++ file_text f.file ++ codes ":" ++ decimal f.line ++ codes ":" ++ decimal f.column ++ codes "\n"

abbrev pub frame_text : Frame → List ℕ
frame_text f = frame_lines [] f

-- the same with the displacement
abbrev pub displaced_text : Frame → List ℕ
displaced_text f = frame_lines (displacement_text f.displacement) f

-- the frames, and an empty line
abbrev pub frames_text : List Frame → List ℕ
frames_text fs = flat_map frame_text fs ++ codes "\n"

-- the same with displacements
abbrev pub displaced_frames : List Frame → List ℕ
displaced_frames fs = flat_map displaced_text fs ++ codes "\n"
