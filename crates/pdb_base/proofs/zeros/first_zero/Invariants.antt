use Rattle.std.proofs.Common.{◌≤◌, ◌-◌, length}
use Rattle.pdb_base.specs.Runs.{NoZeros}
use Rattle.pdb_base.proofs.zeros.first_zero.Given as goal

abbrev pub invariant-loop-at : goal.invariant-loop-at
invariant-loop-at l = record {
  within : l.at ≤ length l.bytes;
  none : NoZeros l.bytes 0 l.at;
}

abbrev pub decreases-loop-at : goal.decreases-loop-at
decreases-loop-at l = length l.bytes - l.at
