use Rattle.std.proofs.Common.{◌+◌, ◌-◌, ◌≤◌}
use Rattle.pdb_file.specs.HeldBytes.{AreHeld}
use Rattle.pdb_file.proofs.source.is_held.Given as goal

-- the first bytes are held
abbrev pub invariant-loop-seen : goal.invariant-loop-seen
invariant-loop-seen l = record {
  fits : l.seen ≤ l.slice.size;
  held : AreHeld l.held l.slice.offset (l.slice.offset + l.seen);
}

abbrev pub decreases-loop-seen : goal.decreases-loop-seen
decreases-loop-seen l = l.slice.size - l.seen
