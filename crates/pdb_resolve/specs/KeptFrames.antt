-- What contracts see of frames, and of the tables of names.
use Rattle.std.specs.Prelude.{◌≡◌, ℕ, List, Option, Some, None}
use Rattle.std.specs.Option.{option_map, unwrap_or}
use Rattle.pdb.specs.LineInfo.{LineInfo}
use Rattle.pdb.specs.LineProgram.{ProgramOf}
use Rattle.pdb.specs.Qualified.{Qualified}
use Rattle.pdb.specs.Text.{name_bytes}
use Rattle.pdb_resolve.specs.declared.frames.Frame.{Frame as FrameRead}
use Rattle.pdb_resolve.specs.declared.frames.FunctionNames.{FunctionNames}
use Rattle.pdb_resolve.specs.declared.frames.NamedFile.{NamedFile}
use Rattle.pdb_resolve.specs.Frames.{Frame, Names, file_name, file_in}
use Rattle.pdb_code.specs.Namings.{shown_function_name}

-- what a frame shows
abbrev pub shown_frame : FrameRead → Frame
shown_frame f = record { name = option_map shown_function_name f.name; displacement = f.displacement; file = option_map name_bytes f.file; line = f.line; column = f.column }

-- the names of functions and of files
abbrev pub names_of : FunctionNames → Option (List ℕ) → Names
names_of n strings = record { ids = n.ids; types = n.types; strings = strings }

-- a frame with a line record in a file of this name
abbrev pub frame_named : Option (List ℕ) → Option Qualified → Option ℕ → LineInfo → Frame
frame_named file name displacement r = record { name = name; displacement = displacement; file = file; line = r.line_start; column = unwrap_or r.column_start 0 }

-- a file has the name that its index tells
abbrev pub IsNamedIn : Option (List ℕ) → Option ProgramOf → Option NamedFile → Type 0
IsNamedIn strings program None = Unit {0}
IsNamedIn strings program (Some f) = option_map name_bytes f.name ≡ file_name strings (file_in program f.index.0)
