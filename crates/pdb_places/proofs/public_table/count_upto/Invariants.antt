use Rattle.std.proofs.Common.{◌-◌}
use Rattle.pdb_places.proofs.PublicCount.{IsCounted}
use Rattle.pdb_places.proofs.public_table.count_upto.Given as goal

abbrev pub invariant-loop-low : goal.invariant-loop-low
invariant-loop-low l = IsCounted l.rows l.fn.last l.low l.high l.fn.steps.count l.steps.count

abbrev pub decreases-loop-low : goal.decreases-loop-low
decreases-loop-low l = l.high - l.low
