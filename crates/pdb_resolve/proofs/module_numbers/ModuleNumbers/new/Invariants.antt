use Rattle.std.proofs.Common.{◌≡◌, ◌≤◌, ℕ, List, drop, length}
use Rattle.pdb_resolve.specs.ModuleNumbers.{number_from}
use Rattle.pdb_resolve.specs.NumberViews.{number_in}
use Rattle.pdb_resolve.proofs.module_numbers.ModuleNumbers.new.Given as goal

-- the modules behind those that are left have their numbers
abbrev pub invariant-loop-number : goal.invariant-loop-number
invariant-loop-number l = record {
  inside : l.number ≤ length l.listed;
  numbered : (q : List ℕ) → number_in l.numbers q ≡ number_from l.number (drop l.number l.listed) q;
}

abbrev pub decreases-loop-number : goal.decreases-loop-number
decreases-loop-number l = l.number
