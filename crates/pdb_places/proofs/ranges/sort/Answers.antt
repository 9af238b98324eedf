use Rattle.std.proofs.Common.{rules, ◌≡◌}
use Rattle.std.proofs.lemmas.Fn.{always_returns_same}
use Rattle.std.proofs.lemmas.List.Sorted.{IsNonDecreasingBy-from_sort_by_key}
use Rattle.pdb_places.specs.RangeOrder.{start_of}
use Rattle.pdb_places.proofs.ranges.sort.Goals as goal

pub returns-in-Ok-clause-sorted : goal.returns-in-Ok-clause-sorted
returns-in-Ok-clause-sorted c = record {
  rises = IsNonDecreasingBy-from_sort_by_key start_of _ c.in-Ok.ensures.sorted (λ a r q k. search rules);
  stable = c.in-Ok.ensures.stable start_of (always_returns_same _ (λ a r. r ≡ start_of a.0.now) _ (λ a r q k. search rules));
  all = c.in-Ok.ensures.permutation;
}
