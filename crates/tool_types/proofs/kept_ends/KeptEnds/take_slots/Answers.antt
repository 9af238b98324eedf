use Rattle.std.proofs.Common.{ℕ, Some}
use Rattle.tool_types.specs.LineNames.{typed_end}
use Rattle.tool_types.specs.LineViews.{names_of_lines}
use Rattle.tool_types.proofs.KeptLemmas.{vacant_ends, vacant_size}
use Rattle.tool_types.proofs.kept_ends.KeptEnds.take_slots.Goals as goal

pub invariant_of-self : goal.invariant_of-self
invariant_of-self c =
    let kept = c.args.self.now in
    let rows = c.in_ok-self.field-0.items in
    record {
      exact = vacant_ends (λ (index : ℕ). typed_end (names_of_lines kept.names) (Some (record { 0 = index }))) rows c.in_ok-self.ensures;
      full = λ some. vacant_size rows c.in_ok-self.ensures;
      exact_calls = kept.exact_calls;
      full_calls = kept.full_calls;
    }
