use Rattle.std.proofs.Common.{rules, ◌≡◌}
use Rattle.std.proofs.lemmas.Fn.{always_returns_same}
use Rattle.std.proofs.lemmas.List.Sorted.{IsNonDecreasingBy-from_sort_by_key}
use Rattle.pdb_modules.proofs.FirstInlinees.{id_of, sorted_first}
use Rattle.pdb_modules.proofs.inlinee_finder.InlineeFinder.new.Goals as goal

pub invariant_of-result : goal.invariant_of-result
invariant_of-result c = IsNonDecreasingBy-from_sort_by_key id_of _ c.in_ok-sort_by_key.ensures.sorted (λ a r q k. search rules)

pub returns : goal.returns
returns c = sorted_first _ _ (c.in_ok-sort_by_key.ensures.stable id_of (always_returns_same _ (λ a r. r ≡ id_of a.0.now) _ (λ a r q k. search rules)))
