use Rattle.tool_types.specs.LineNames.{call_end}
use Rattle.tool_types.specs.LineViews.{names_of_lines}
use Rattle.tool_types.proofs.KeptLemmas.{as_many_ends, one_more_end}
use Rattle.tool_types.proofs.kept_ends.KeptEnds.fill_call.Goals as goal

pub invariant_of-self-2 : goal.invariant_of-self-2
invariant_of-self-2 c =
    let kept = c.take_calls.new.self in
    let end = c.in_ok-end.end in
    record {
      exact = kept.exact;
      full = kept.full;
      exact_calls = one_more_end (call_end (names_of_lines kept.names)) kept.calls.items c.args.slot c.args.id end c.in_ok-end.ensures.id c.in_ok-end.ensures.text kept.exact_calls;
      full_calls = λ some. as_many_ends kept.calls.items c.args.slot end c.in_ok-take_calls.ensures.full;
    }
