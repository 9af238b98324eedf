use Rattle.std.proofs.Common.{rules, ◌≡◌}
use Rattle.std.proofs.lemmas.Fn.{always_returns_same}
use Rattle.std.proofs.lemmas.List.Sorted.{IsNonDecreasingBy-from_sort_by_key}
use Rattle.tool_lists.specs.StreamRoles.{stream_number}
use Rattle.tool_lists.proofs.stream_roles.sort.Goals as goal

pub returns-in-Ok-clause-rises : goal.returns-in-Ok-clause-rises
returns-in-Ok-clause-rises c = IsNonDecreasingBy-from_sort_by_key stream_number _ c.in-Ok.ensures.sorted (λ a r q k. search rules)

pub returns-in-Ok-clause-stable : goal.returns-in-Ok-clause-stable
returns-in-Ok-clause-stable c = c.in-Ok.ensures.stable stream_number (always_returns_same _ (λ a r. r ≡ stream_number a.0.now) _ (λ a r q k. search rules))
