use Rattle.std.proofs.Common.{ℕ, Some}
use Rattle.tool_types.specs.LineNames.{typed_end}
use Rattle.tool_types.specs.LineViews.{names_of_lines}
use Rattle.tool_types.proofs.KeptLemmas.{as_many_ends, one_more_end}
use Rattle.tool_types.proofs.kept_ends.KeptEnds.fill.Goals as goal

pub invariant_of-self-2 : goal.invariant_of-self-2
invariant_of-self-2 c =
    let kept = c.take_slots.new.self in
    let end = c.in_ok-end.end in
    record {
      exact = one_more_end (λ (index : ℕ). typed_end (names_of_lines kept.names) (Some (record { 0 = index }))) kept.rows.items c.args.slot c.args.index end c.in_ok-end.ensures.index c.in_ok-end.ensures.text kept.exact;
      full = λ some. as_many_ends kept.rows.items c.args.slot end c.in_ok-take_slots.ensures.full;
      exact_calls = kept.exact_calls;
      full_calls = kept.full_calls;
    }
