use Rattle.std.proofs.Common.{◌-◌}
use Rattle.pdb_modules.proofs.Halving.{IsHalved, IsInSection}
use Rattle.pdb_modules.proofs.search.count_upto.Given as goal

abbrev pub invariant-loop-low : goal.invariant-loop-low
invariant-loop-low l = record {
  halved : IsHalved l.fn.place l.listed l.low l.high l.fn.steps.count l.steps.count;
  section : IsInSection l.fn.place l.listed l.low l.in_section;
}

abbrev pub decreases-loop-low : goal.decreases-loop-low
decreases-loop-low l = l.high - l.low
