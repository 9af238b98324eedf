use Rattle.tool_types.specs.LineNames.{call_end}
use Rattle.tool_types.specs.LineViews.{names_of_lines}
use Rattle.tool_types.proofs.KeptLemmas.{vacant_ends, vacant_size}
use Rattle.tool_types.proofs.kept_ends.KeptEnds.take_calls.Goals as goal

pub invariant_of-self : goal.invariant_of-self
invariant_of-self c =
    let kept = c.args.self.now in
    let rows = c.in_ok-self.field-0.items in
    record {
      exact = kept.exact;
      full = kept.full;
      exact_calls = vacant_ends (call_end (names_of_lines kept.names)) rows c.in_ok-self.ensures;
      full_calls = λ some. vacant_size rows c.in_ok-self.ensures;
    }
