use Rattle.std.proofs.Common.{◌-◌}
use Rattle.pdb_places.proofs.CutHalves.{AreHalved}
use Rattle.pdb_places.proofs.painted.find_painted.Given as goal

abbrev pub invariant-loop-low : goal.invariant-loop-low
invariant-loop-low l = AreHalved l.fn.at l.cuts l.low l.high l.found l.fn.steps.count l.steps.count

abbrev pub decreases-loop-low : goal.decreases-loop-low
decreases-loop-low l = l.high - l.low
