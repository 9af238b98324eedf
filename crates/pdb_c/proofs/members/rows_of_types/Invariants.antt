use Rattle.std.proofs.Common.{◌≡◌, ◌++◌, drop, map}
use Rattle.pdb_c.specs.MemberRows.{rows_of_types, seen}
use Rattle.pdb_c.proofs.members.rows_of_types.Given as goal

-- what was added, and the rows of what is left, are the rows of all
abbrev pub invariant-loop-owner : goal.invariant-loop-owner
invariant-loop-owner l = map seen l.rows.items ++ rows_of_types l.types.items l.owner (drop l.owner l.indices) ≡ rows_of_types l.types.items 0 l.indices
