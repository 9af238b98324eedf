use Rattle.std.proofs.Common.{◌≡◌, ◌++◌, length, map}
use Rattle.pdb_types.specs.MemberListViews.{members_left}
use Rattle.pdb_c.specs.MemberRows.{rows_left, seen}
use Rattle.pdb_c.proofs.members.add_left.Given as goal

-- what was added, and the rows of what is left, are the rows of all
abbrev pub invariant-loop-member : goal.invariant-loop-member
invariant-loop-member l = map seen l.rows.items ++ rows_left l.types.items l.owner l.underlying.0 (members_left l.members) ≡ map seen l.fn.rows.items ++ rows_left l.fn.types.items l.fn.owner l.fn.underlying.0 (members_left l.fn.members)

abbrev pub decreases-loop-member : goal.decreases-loop-member
decreases-loop-member l = length (members_left l.members).items
