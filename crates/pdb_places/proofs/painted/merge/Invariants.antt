use Rattle.std.proofs.Common.{◌-◌, ◌+◌, length}
use Rattle.pdb_places.proofs.Overlays.{IsMerged}
use Rattle.pdb_places.proofs.painted.merge.Given as goal

abbrev pub invariant-loop-i : goal.invariant-loop-i
invariant-loop-i l = IsMerged l.first l.second l.i l.j l.upper l.lower l.layer.items

abbrev pub decreases-loop-i : goal.decreases-loop-i
decreases-loop-i l = (length l.first - l.i) + (length l.second - l.j)
