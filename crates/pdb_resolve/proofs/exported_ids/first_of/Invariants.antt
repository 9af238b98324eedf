use Rattle.std.proofs.Common.{◌≡◌, ◌≤◌, ℕ, drop, length, nat_cmp}
use Rattle.std.specs.BTreeMap.{get}
use Rattle.pdb.specs.CrossModule.{global_of}
use Rattle.pdb_resolve.proofs.exported_ids.first_of.Given as goal

-- the first ones of those behind the pairs that are left
abbrev pub invariant-loop-left : goal.invariant-loop-left
invariant-loop-left l = record {
  inside : l.left ≤ length l.pairs;
  first : (n : ℕ) → get nat_cmp l.first n ≡ global_of n (drop l.left l.pairs);
}

abbrev pub decreases-loop-left : goal.decreases-loop-left
decreases-loop-left l = l.left
