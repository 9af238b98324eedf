use Rattle.std.proofs.Common.{◌∙◌}
use Rattle.tool_printing.specs.Printing.{all_shown, shown}
use Rattle.tool_printing.proofs.All.{all_halted, all_here, all_more, all_whole, shown_all}
use Rattle.tool_printing.proofs.Printed.{prints_err}
use Rattle.tool_types.specs.TypeTexts.{index_lines}
use Rattle.tool_types.specs.TypeViews.{types_of}
use Rattle.tool_types.proofs.type_texts.print_each.Goals as goal

pub returns-in_err-put_index-clause-prints : goal.returns-in_err-put_index-clause-prints
returns-in_err-put_index-clause-prints g c =
    let text = index_lines (types_of c.args.types) in
    let halted = all_here (λ i. shown (text i)) _ _ c.args.indices.now c.loop-index.index-index c.loop-index.invariant.printed in
    rw (shown_all text c.args.indices.now) (prints_err (all_shown (λ i. shown (text i)) c.args.indices.now) _ _ c.from_residual.result _ c.from_residual.ensures.1 halted)

pub returns-in_err-print-clause-prints : goal.returns-in_err-print-clause-prints
returns-in_err-print-clause-prints g c =
    let text = index_lines (types_of c.args.types) in
    let here = rw c.clear.ensures.items at c.in_ok-put_index.ensures in
    let printed = rw (c.deref.ensures.value, here) at c.in_err-print.ensures.prints in
    let halted = all_halted (λ i. shown (text i)) _ _ _ c.args.indices.now c.loop-index.index-index 0 c.loop-index-test.true c.loop-index.invariant.printed printed in
    rw (shown_all text c.args.indices.now) (prints_err (all_shown (λ i. shown (text i)) c.args.indices.now) _ _ c.from_residual-in_err-print.result _ c.from_residual-in_err-print.ensures.1 halted)

pub returns-clause-prints : goal.returns-clause-prints
returns-clause-prints g c =
    let text = index_lines (types_of c.args.types) in
    rw (shown_all text c.args.indices.now) (all_whole (λ i. shown (text i)) _ _ c.args.indices.now c.loop-index.index-index c.loop-index-test.false c.loop-index.invariant.printed)

pub loop-index-preserved : goal.loop-index-preserved
loop-index-preserved g c =
    let text = index_lines (types_of c.args.types) in
    let here = rw c.clear.ensures.items at c.in_ok-put_index.ensures in
    let printed = rw (c.deref.ensures.value, here) at c.in_ok-print.ensures.prints in
    record {
      printed = all_more (λ i. shown (text i)) _ _ _ c.args.indices.now c.loop-index.index-index 0 c.loop-index-test.true c.loop-index.invariant.printed printed;
      failures = c.in_ok-print.ensures.failures ∙ c.loop-index.invariant.failures;
    }
