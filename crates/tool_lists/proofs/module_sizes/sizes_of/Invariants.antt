use Rattle.std.proofs.Common.{◌≡◌, ◌≤◌, ◌+◌, ◌*◌, ℕ, length}
use Rattle.pdb.specs.DbiViews.{contributions_left, contributions_steps}
use Rattle.tool_lists.specs.ModuleSizes.{bytes_of_module, size_in}
use Rattle.tool_lists.proofs.module_sizes.sizes_of.Given as goal

-- what was summed, and the bytes of what is left, are the bytes of all; each contribution has at most four bytes of size
abbrev pub invariant-loop-contribution : goal.invariant-loop-contribution
invariant-loop-contribution l = record {
  told : (k : ℕ) → size_in l.sizes.items k + bytes_of_module (contributions_left l.contributions).items k ≡ bytes_of_module (contributions_left l.fn.contributions).items k;
  few : (k : ℕ) → size_in l.sizes.items k ≤ contributions_steps l.contributions * 4294967295;
  bound : contributions_steps l.contributions ≤ 4294967296;
}

abbrev pub decreases-loop-contribution : goal.decreases-loop-contribution
decreases-loop-contribution l = length (contributions_left l.contributions).items
