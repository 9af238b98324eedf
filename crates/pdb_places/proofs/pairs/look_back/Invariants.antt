use Rattle.std.proofs.Common.{◌+◌, ◌/◌, ◌<◌, ◌≤◌, ℕ, length}
use Rattle.pdb_places.proofs.TablePairs.{start_in}
use Rattle.pdb_places.proofs.pairs.look_back.Given as goal

-- those that were looked at begin behind the address
abbrev pub invariant-loop-left : goal.invariant-loop-left
invariant-loop-left l = record {
  inside : l.left ≤ length l.table / 8;
  behind : (k : ℕ) → l.left ≤ k → k < length l.table / 8 → l.fn.address < start_in l.table k;
  counted : l.steps.count + l.left ≤ l.fn.steps.count + length l.table / 8;
}

abbrev pub decreases-loop-left : goal.decreases-loop-left
decreases-loop-left l = l.left
