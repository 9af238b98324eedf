use Rattle.std.proofs.Common.{ℕ, ◌<◌, ◌≤◌}
use Rattle.pdb_modules.specs.BlockViews.{block_of}
use Rattle.pdb_modules.specs.Rising.{AreRising, offset_of}
use Rattle.pdb_modules.proofs.rising.count_rising.Given as goal

-- those so far are rising, and none stands behind the last of them
abbrev pub invariant-loop-i : goal.invariant-loop-i
invariant-loop-i l = record {
  rising : AreRising l.from l.has_columns (block_of l.block) l.i;
  upto : (k : ℕ) → k < l.i → offset_of l.from l.has_columns (block_of l.block) k ≤ l.before;
}
