use Rattle.std.proofs.Common.{◌≡◌, ◌≤◌, ℕ, List, drop, length}
use Rattle.std.specs.Prelude.{IsSome}
use Rattle.pdb_resolve.specs.ModuleNumbers.{number_from}
use Rattle.pdb_resolve.specs.NumberViews.{number_in}
use Rattle.pdb_resolve.proofs.module_numbers.ModuleNumbers.among.Given as goal

-- those of the modules behind those that are left whose names are among these have their numbers
abbrev pub invariant-loop-left : goal.invariant-loop-left
invariant-loop-left l = record {
  inside : l.left ≤ length l.listed;
  numbered : (q : List ℕ) → IsSome (number_in l.fn.names q) → number_in l.numbers q ≡ number_from l.left (drop l.left l.listed) q;
}

abbrev pub decreases-loop-left : goal.decreases-loop-left
decreases-loop-left l = l.left
