-- Line records as rows.
use Rattle.std.specs.Prelude.{◌≡◌, ◌⊎◌, ℕ, List, Option, Some, None, Result, Ok, Err}
use Rattle.std.specs.Option.{unwrap_or}
use Rattle.pdb.specs.Error.{Error}
use Rattle.pdb.specs.Refusal.{number_of}
use Rattle.pdb.specs.Lines.{lines_of}
use Rattle.pdb.specs.LineProgram.{ProgramOf}
use Rattle.pdb.specs.LineInfo.{LineInfo}
use Rattle.pdb.specs.LineInfoKind.{LineInfoKind}
use Rattle.pdb.specs.LineInfoKind.TheVariants.{Expression, Statement}
use Rattle.pdb.specs.Files.{FileOf, file_at}
use Rattle.pdb.specs.ModuleStream.{ModuleBytes}
use Rattle.pdb_c.specs.Lists.{IsListed, WithoutMemory}
use Rattle.pdb_c.specs.Boundary.{IsRefused}
use Rattle.pdb_c.specs.declared.lines.PdbLine.{PdbLine}

-- 1 where a number is told
abbrev pub told : Option ℕ → ℕ
told None = 0
told (Some n) = 1

abbrev pub is_statement : LineInfoKind → ℕ
is_statement Statement = 1
is_statement Expression = 0

-- the place of a file's name, and 0 or why there is no such file
abbrev pub name_place : Result FileOf Error → ℕ
name_place (Ok file) = file.name
name_place (Err e) = 0

abbrev pub file_code : Result FileOf Error → ℕ
file_code (Ok file) = 0
file_code (Err e) = number_of e

-- a line record whose file's name stands at a place, or is refused
abbrev pub named_row : ℕ → ℕ → LineInfo → PdbLine
named_row place refused l = record {
  offset = l.offset.offset;
  section = l.offset.section;
  file_refused = refused;
  has_length = told l.length;
  has_column_start = told l.column_start;
  has_column_end = told l.column_end;
  is_statement = is_statement l.kind;
  length = unwrap_or l.length 0;
  file = l.file_index.0;
  file_name = place;
  line_start = l.line_start;
  line_end = l.line_end;
  column_start = unwrap_or l.column_start 0;
  column_end = unwrap_or l.column_end 0;
}

-- a line record of a program with these checksums of files
abbrev pub line_row : List ℕ → LineInfo → PdbLine
line_row checksums l = named_row (name_place (file_at checksums l.file_index.0)) (file_code (file_at checksums l.file_index.0)) l

-- a line record of an inlined function: of its file the index alone is told
abbrev pub inlined_row : LineInfo → PdbLine
inlined_row l = named_row 0 0 l

-- what a call put of the lines of a module
abbrev pub LinesTold : ℕ → List PdbLine → List PdbLine → ℕ → Result ProgramOf Error → Type 0
LinesTold code old new count (Ok p) = IsListed (λ r. r) (line_row p.checksums) code old new count (lines_of p.subsections) ⊎ ((code ≡ 22) × (new ≡ old) × (count ≡ 0))
LinesTold code old new count (Err e) = IsRefused code e × (new ≡ old) × (count ≡ 0)

-- the same where it takes no memory
abbrev pub LinesExact : ℕ → List PdbLine → List PdbLine → ℕ → Result ProgramOf Error → Type 0
LinesExact code old new count read = WithoutMemory (λ p. IsListed (λ r. r) (line_row p.checksums) code old new count (lines_of p.subsections)) code old new count read

-- a module's stream by its bytes and sizes
abbrev pub module_bytes : List ℕ → ℕ → ℕ → ℕ → ModuleBytes
module_bytes bytes symbols lines c13_lines = record { bytes = bytes; symbols_size = symbols; lines_size = lines; c13_lines_size = c13_lines }
