use Rattle.std.proofs.Common.{◌≡◌, map, []}
use Rattle.std.specs.Prelude.{replicate}
use Rattle.tool_addresses.proofs.variable_texts.empty_texts.Given as goal

-- as many as turns were made, all empty
abbrev pub invariant-loop : goal.invariant-loop
invariant-loop l = map (λ text. text.items) l.texts.items ≡ replicate l.counter []
