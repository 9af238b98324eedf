use Rattle.std.proofs.Common.{◌-◌}
use Rattle.pdb_places.proofs.Halves.{IsHalved}
use Rattle.pdb_places.proofs.ranges.halve.Given as goal

abbrev pub invariant-loop-low : goal.invariant-loop-low
invariant-loop-low l = IsHalved l.fn.place l.ranges l.low l.high l.found l.fn.steps.count l.steps.count

abbrev pub decreases-loop-low : goal.decreases-loop-low
decreases-loop-low l = l.high - l.low
