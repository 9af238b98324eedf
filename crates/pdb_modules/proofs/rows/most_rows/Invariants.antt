use Rattle.std.proofs.Common.{◌≤◌, take}
use Rattle.std.specs.List.{sum_by}
use Rattle.pdb_modules.specs.LineProgram.{part_bytes}
use Rattle.pdb_modules.proofs.rows.most_rows.Given as goal

-- no more than the bytes so far
abbrev pub invariant-loop-part : goal.invariant-loop-part
invariant-loop-part l = l.most ≤ sum_by part_bytes (take l.part-index l.parts)
