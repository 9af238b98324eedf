use Rattle.std.proofs.Common.{◌-◌, ◌≤◌}
use Rattle.pdb_modules.specs.BlockViews.{block_of}
use Rattle.pdb_modules.specs.LineSearch.{ArePassed}
use Rattle.pdb_modules.proofs.rising.count_risen.Given as goal

-- those below `low` are passed
abbrev pub invariant-loop-low : goal.invariant-loop-low
invariant-loop-low l = record {
  order : l.low ≤ l.high;
  inside : l.high ≤ l.rising;
  passed : ArePassed l.place l.from l.has_columns (block_of l.block) l.low;
}

abbrev pub decreases-loop-low : goal.decreases-loop-low
decreases-loop-low l = l.high - l.low
