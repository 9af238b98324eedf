use Rattle.std.proofs.Common.{rules, ◌≡◌}
use Rattle.std.proofs.lemmas.Fn.{always_returns_same}
use Rattle.std.proofs.lemmas.List.Sorted.{IsNonDecreasingBy-from_sort_by_key}
use Rattle.std.proofs.lemmas.List.Sorted.{sum_by-IsPermutation}
use Rattle.pdb_modules.specs.LineProgram.{part_bytes}
use Rattle.pdb_modules.proofs.Sorting.{part_number, sorted_parts}
use Rattle.pdb_modules.proofs.sort.sort.Goals as goal

pub returns-in-Ok-clause-ordered : goal.returns-in-Ok-clause-ordered
returns-in-Ok-clause-ordered c =
    sorted_parts _ _
    (IsNonDecreasingBy-from_sort_by_key part_number _ c.in-Ok.ensures.sorted (λ a r q k. search rules))
    (c.in-Ok.ensures.stable part_number (always_returns_same _ (λ a r. r ≡ part_number a.0.now) _ (λ a r q k. search rules)))

pub returns-in-Ok-clause-size : goal.returns-in-Ok-clause-size
returns-in-Ok-clause-size c = sum_by-IsPermutation part_bytes _ _ c.in-Ok.ensures.permutation
