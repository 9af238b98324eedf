use Rattle.std.proofs.Common.{◌-◌, ◌/◌, length}
use Rattle.pdb_places.proofs.Keyed.{IsKeyed}
use Rattle.pdb_places.proofs.TablePairs.{start_in}
use Rattle.pdb_places.proofs.pairs.halve.Given as goal

abbrev pub invariant-loop-low : goal.invariant-loop-low
invariant-loop-low l = IsKeyed (start_in l.table) (length l.table / 8) l.fn.address l.low l.high l.fn.steps.count l.steps.count

abbrev pub decreases-loop-low : goal.decreases-loop-low
decreases-loop-low l = l.high - l.low
