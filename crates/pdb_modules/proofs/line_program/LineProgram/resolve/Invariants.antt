use Rattle.std.proofs.Common.{◌≤◌, map, take, vec_len}
use Rattle.std.specs.List.{sum_by}
use Rattle.pdb_modules.specs.KeptRows.{subsection_of}
use Rattle.pdb_modules.specs.LineProgram.{part_bytes}
use Rattle.pdb_modules.proofs.ProgramLemmas.{IsPartly}
use Rattle.pdb_modules.proofs.line_program.LineProgram.resolve.Given as goal

-- the subsections so far are resolved
abbrev pub invariant-loop-part : goal.invariant-loop-part
invariant-loop-part l = record {
  partly : IsPartly l.rows.items l.listed.items l.count l.fault (map subsection_of (take l.part-index l.parts));
  few : vec_len l.rows ≤ sum_by part_bytes (take l.part-index l.parts);
}
