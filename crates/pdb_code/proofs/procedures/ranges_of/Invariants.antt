use Rattle.std.proofs.Common.{◌≡◌, map, take}
use Rattle.pdb_places.specs.Pieces.{range_parts, code_parts}
use Rattle.pdb_code.specs.Listed.{shown_procedure}
use Rattle.pdb_code.proofs.procedures.ranges_of.Given as goal

-- the rows so far are the ranges of as many procedures
abbrev pub invariant-loop-procedure : goal.invariant-loop-procedure
invariant-loop-procedure l = map range_parts l.rows.items ≡ map code_parts (map shown_procedure (take l.procedure-index l.listed))
