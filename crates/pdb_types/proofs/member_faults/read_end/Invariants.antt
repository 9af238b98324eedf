use Rattle.std.proofs.Common.{◌≡◌, ◌+◌, ◌-◌, length, None}
use Rattle.pdb_base.specs.Tiling.{listing}
use Rattle.pdb_types.specs.MemberEnds.{end_of, entries_read}
use Rattle.pdb_types.specs.MemberLists.{entries}
use Rattle.pdb_types.proofs.member_faults.read_end.Given as goal

-- what is left of the list ends as the whole list does, and is left to be read
abbrev pub invariant-loop-at : goal.invariant-loop-at
invariant-loop-at l = record { ends : end_of l.list (listing entries l.bytes l.at) ≡ end_of None (listing entries l.fn.bytes 2); stepped : l.steps.count + entries_read (listing entries l.bytes l.at) ≡ l.initial.steps.count + entries_read (listing entries l.fn.bytes 2) }

abbrev pub decreases-loop-at : goal.decreases-loop-at
decreases-loop-at l = length l.bytes - l.at
