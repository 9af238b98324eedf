use Rattle.std.proofs.Common.{◌≡◌, ◌≤◌}
use Rattle.pdb_types.specs.MemberListViews.{members_ahead, members_left, members_steps}
use Rattle.pdb_types.proofs.member_lists.MemberIterFallibleIterator.next.Given as goal

abbrev pub invariant-loop-answer : goal.invariant-loop-answer
invariant-loop-answer l = (members_left l.self ≡ members_left l.initial.self) × (members_steps l.initial.self ≤ members_steps l.self)

abbrev pub decreases-loop-answer : goal.decreases-loop-answer
decreases-loop-answer l = members_ahead l.self
