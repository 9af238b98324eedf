use Rattle.std.proofs.Common.{All, ◌≤◌, ◌*◌, length, vec_len}
use Rattle.std.specs.Prelude.{vec_capacity}
use Rattle.pdb_items.specs.ItemViews.{items_left}
use Rattle.pdb_types.specs.MemberEndViews.{IsEndIn}
use Rattle.pdb_types.proofs.member_faults.ends_of.Given as goal

-- each row so far says how its list ends
abbrev pub invariant-loop-item : goal.invariant-loop-item
invariant-loop-item l = record { ends : All (IsEndIn l.types) l.ends.items; room : vec_capacity l.ends ≤ 2 * vec_len l.ends }

abbrev pub decreases-loop-item : goal.decreases-loop-item
decreases-loop-item l = length (items_left l.items).items
