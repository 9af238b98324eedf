use Rattle.std.proofs.Common.{◌-◌}
use Rattle.pdb_modules.proofs.ExportLemmas.{IsHalvedAt}
use Rattle.pdb_modules.proofs.exports.halve.Given as goal

abbrev pub invariant-loop-low : goal.invariant-loop-low
invariant-loop-low l = IsHalvedAt l.local l.exports l.low l.high l.fn.steps.count l.steps.count

abbrev pub decreases-loop-low : goal.decreases-loop-low
decreases-loop-low l = l.high - l.low
