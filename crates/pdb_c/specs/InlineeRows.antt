-- Inlined functions as rows.
use Rattle.std.specs.Prelude.{ℕ, List, Result}
use Rattle.pdb.specs.Error.{Error}
use Rattle.pdb.specs.Refusal.{◌>>=◌}
use Rattle.pdb.specs.Files.{FileOf, file_at}
use Rattle.pdb.specs.LineProgram.{ProgramOf}
use Rattle.pdb.specs.Inlinees.{InlineeEntry}
use Rattle.pdb.specs.ModuleStream.{ModuleBytes, line_program_of, inlinees_of}
use Rattle.pdb_c.specs.Lists.{IsListed, Obtained}
use Rattle.pdb_c.specs.LineRows.{name_place, file_code}
use Rattle.pdb_c.specs.declared.inlinees.PdbInlinee.{PdbInlinee}

-- the file of an index in a line program, or why there is none
abbrev pub file_in : Result ProgramOf Error → ℕ → Result FileOf Error
file_in program index = program >>= λ p. file_at p.checksums index

-- an inlined function of a module with this line program
abbrev pub inlinee_row : Result ProgramOf Error → InlineeEntry → PdbInlinee
inlinee_row program x = record {
  id = x.index;
  line = x.line;
  file = x.file_index;
  file_name = name_place (file_in program x.file_index);
  file_refused = file_code (file_in program x.file_index);
}

-- what a call put of the inlined functions of a module
abbrev pub InlineesTold : ℕ → List PdbInlinee → List PdbInlinee → ℕ → ModuleBytes → Type 0
InlineesTold code old new count m = Obtained (λ left. IsListed (λ r. r) (inlinee_row (line_program_of m)) code old new count left) code old new count (inlinees_of m)
