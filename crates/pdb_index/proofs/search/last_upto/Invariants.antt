use Rattle.std.proofs.Common.{◌-◌}
use Rattle.pdb_index.specs.IndexLayout.{start_of}
use Rattle.pdb_index.proofs.Halving.{Halves}
use Rattle.pdb_index.proofs.search.last_upto.Given as goal

abbrev pub invariant-loop-low : goal.invariant-loop-low
invariant-loop-low l = Halves (start_of l.bytes l.table) l.first l.behind l.key l.low l.high l.fn.looks.count l.looks.count

abbrev pub decreases-loop-low : goal.decreases-loop-low
decreases-loop-low l = l.high - l.low
