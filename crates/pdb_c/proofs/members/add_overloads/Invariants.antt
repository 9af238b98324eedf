use Rattle.std.proofs.Common.{◌≡◌, ◌++◌, length, map}
use Rattle.pdb_types.specs.OverloadViews.{overloads_left}
use Rattle.pdb_c.specs.MemberRows.{overload_rows, seen}
use Rattle.pdb_c.proofs.members.add_overloads.Given as goal

-- what was added, and the rows of what is left, are the rows of all
abbrev pub invariant-loop-method : goal.invariant-loop-method
invariant-loop-method l = map seen l.rows.items ++ overload_rows l.owner l.name (overloads_left l.methods) ≡ map seen l.fn.rows.items ++ overload_rows l.fn.owner l.fn.name (overloads_left l.fn.methods)

abbrev pub decreases-loop-method : goal.decreases-loop-method
decreases-loop-method l = length (overloads_left l.methods).items
