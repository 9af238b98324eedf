-- The line of what `check` finds, in a format.
use Rattle.std.specs.Prelude.{ℕ, List, [], ◌++◌, codes}
use Rattle.std.specs.Fmt.{decimal}
use Rattle.json.specs.Json.{Json, null, object, Members, no_members, member}
use Rattle.pdb_text.specs.OneLine.{one_line}
use Rattle.tool_output.specs.Objects.{json_line, text_value}
use Rattle.tool_arguments.specs.declared.options.OutputFormat.{OutputFormat}
use Rattle.tool_arguments.specs.declared.options.OutputFormat.TheVariants.{Text, Json as Objects}

-- what the lines of a part of a file have in common: the format, the file's name, and how the part's labels begin
pub record Subject : Type 0 where
  pub format : OutputFormat
  pub file : List ℕ
  pub part : List ℕ

-- of all but the modules
abbrev pub file_subject : OutputFormat → List ℕ → Subject
file_subject format name = record { format = format; file = name; part = [] }

-- of the module of this number
abbrev pub module_subject : OutputFormat → List ℕ → ℕ → Subject
module_subject format name k = record { format = format; file = name; part = codes "module " ++ decimal k }

-- ---- what is wrong at a label of a file

-- `FILE: WHERE: TEXT`
unfoldable pub finding_line : List ℕ → List ℕ → List ℕ → List ℕ
finding_line file label what = one_line file ++ codes ": " ++ label ++ codes ": " ++ what ++ codes "\n"

-- the same as a JSON object
abbrev pub label_members : List ℕ → List ℕ → Members
label_members label what = member (codes "where") (text_value label) (member (codes "text") (text_value what) no_members)

abbrev pub finding_value : List ℕ → List ℕ → List ℕ → Json
finding_value file label what = object (member (codes "file") (text_value file) (label_members label what))

abbrev pub finding_in : OutputFormat → List ℕ → List ℕ → List ℕ → List ℕ
finding_in Text file label what = finding_line file label what
finding_in Objects file label what = json_line (finding_value file label what)

-- at a label of the part
unfoldable pub line_of : Subject → List ℕ → List ℕ → List ℕ
line_of subject label what = finding_in subject.format subject.file (subject.part ++ label) what

-- ---- a file without an error

abbrev pub sound_value : List ℕ → Json
sound_value file = object (member (codes "file") (text_value file) (member (codes "where") null (member (codes "text") null no_members)))

abbrev pub sound_in : OutputFormat → List ℕ → List ℕ
sound_in Text file = one_line file ++ codes ": ok\n"
sound_in Objects file = json_line (sound_value file)
