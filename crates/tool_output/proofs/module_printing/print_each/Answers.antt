use Rattle.std.proofs.Common.{ap, get_or, ◌∙◌}
use Rattle.pdb.specs.Left.{Left}
use Rattle.pdb.specs.Listed.{listed}
use Rattle.pdb.specs.Modules.{ModuleEntry}
use Rattle.pdb.proofs.Passing.{continues_then}
use Rattle.tool_output.specs.ModuleTexts.{in_file, module_in}
use Rattle.tool_printing.specs.Printing.{all_shown, shown}
use Rattle.tool_printing.proofs.All.{all_halted, all_here, all_more, all_whole, shown_all}
use Rattle.tool_printing.proofs.Printed.{prints_err}
use Rattle.tool_output.proofs.module_printing.print_each.Goals as goal

pub returns-in_err-put_by_index-clause-prints : goal.returns-in_err-put_by_index-clause-prints
returns-in_err-put_by_index-clause-prints g c = λ told.
    let text = module_in c.args.format c.args.several (in_file (g.T.ModuleText.text c.args.texts.now) c.args.pdb.now.file) c.args.pdb.now.file (listed c.args.list.now) in
    let halted = all_here (λ k. shown (text k)) _ _ c.args.indices.now c.loop-k.k-index (c.loop-k.invariant.printed (c.put_by_index.ensures.continues.told told)) in
    rw (shown_all text c.args.indices.now) (prints_err (all_shown (λ k. shown (text k)) c.args.indices.now) _ _ c.from_residual.result _ c.from_residual.ensures.1 halted)

pub returns-in_err-print-clause-prints : goal.returns-in_err-print-clause-prints
returns-in_err-print-clause-prints g c = λ told.
    let so_far = c.loop-k.invariant in
    let text = module_in c.args.format c.args.several (in_file (g.T.ModuleText.text c.args.texts.now) c.args.pdb.now.file) c.args.pdb.now.file (listed c.args.list.now) in
    let first = rw c.clear.ensures.items at (c.in_ok-put_by_index.ensures.text told) in
    let here = first ∙ ap (λ (left : Left ModuleEntry). module_in c.args.format c.args.several (in_file (g.T.ModuleText.text c.args.texts.now) c.loop-k.pdb.file) c.loop-k.pdb.file left (get_or c.args.indices.now c.loop-k.k-index 0)) so_far.kept in
    let printed = rw (c.deref.ensures.value, here, so_far.continues.file) at c.in_err-print.ensures.prints in
    let halted = all_halted (λ k. shown (text k)) _ _ _ c.args.indices.now c.loop-k.k-index 0 c.loop-k-test.true (so_far.printed (c.put_by_index.ensures.continues.told told)) printed in
    rw (shown_all text c.args.indices.now) (prints_err (all_shown (λ k. shown (text k)) c.args.indices.now) _ _ c.from_residual-in_err-print.result _ c.from_residual-in_err-print.ensures.1 halted)

pub returns-clause-prints : goal.returns-clause-prints
returns-clause-prints g c = λ told.
    let text = module_in c.args.format c.args.several (in_file (g.T.ModuleText.text c.args.texts.now) c.args.pdb.now.file) c.args.pdb.now.file (listed c.args.list.now) in
    rw (shown_all text c.args.indices.now) (all_whole (λ k. shown (text k)) _ _ c.args.indices.now c.loop-k.k-index c.loop-k-test.false (c.loop-k.invariant.printed told))

pub loop-k-preserved : goal.loop-k-preserved
loop-k-preserved g c =
    let so_far = c.loop-k.invariant in
    record {
      continues = continues_then _ _ _ so_far.continues c.put_by_index.ensures.continues;
      kept = c.in_ok-put_by_index.ensures.kept ∙ so_far.kept;
      printed = λ told.
          let text = module_in c.args.format c.args.several (in_file (g.T.ModuleText.text c.args.texts.now) c.args.pdb.now.file) c.args.pdb.now.file (listed c.args.list.now) in
          let first = rw c.clear.ensures.items at (c.in_ok-put_by_index.ensures.text told) in
          let here = first ∙ ap (λ (left : Left ModuleEntry). module_in c.args.format c.args.several (in_file (g.T.ModuleText.text c.args.texts.now) c.loop-k.pdb.file) c.loop-k.pdb.file left (get_or c.args.indices.now c.loop-k.k-index 0)) so_far.kept in
          let printed = rw (c.deref.ensures.value, here, so_far.continues.file) at c.in_ok-print.ensures.prints in
          all_more (λ k. shown (text k)) _ _ _ c.args.indices.now c.loop-k.k-index 0 c.loop-k-test.true (so_far.printed (c.put_by_index.ensures.continues.told told)) printed;
      failures = c.in_ok-print.ensures.failures ∙ so_far.failures;
    }
