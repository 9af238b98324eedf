use Rattle.std.proofs.Common.{rules, ◌≡◌, ◌+◌, ◌∙◌, ℕ, refl, ap}
use Rattle.pdb.specs.DbiViews.{modules_left, modules_steps}
use Rattle.pdb.proofs.Passing.{continues_then}
use Rattle.tool_output.specs.ErrorObjects.{error_in}
use Rattle.tool_output.specs.ModuleTexts.{in_file}
use Rattle.tool_output.proofs.Listed.{fault_listed, next_listed}
use Rattle.tool_printing.proofs.Printed.{before_halted, before_here, before_more, before_none, before_prints, prints_err}
use Rattle.tool_output.proofs.module_printing.print_left.Goals as goal

pub returns-in_err-put_listed-in-Ok-Some-clause-prints : goal.returns-in_err-put_listed-in-Ok-Some-clause-prints
returns-in_err-put_listed-in-Ok-Some-clause-prints g c = λ told.
    prints_err _ _ _ c.from_residual.result _ c.from_residual.ensures.1 (before_here _ _ _ _ (c.loop-module.invariant.printed (c.put_listed.ensures.continues.told told)))

pub returns-in-Err-clause-prints : goal.returns-in-Err-clause-prints
returns-in-Err-clause-prints g c = λ told.
    let last = fault_listed c.args.format c.args.several (in_file (g.T.ModuleText.text c.args.texts.now) c.args.pdb.now.file) c.args.pdb.now.file c.loop-module.k _ _ c.in-Err.e c.in-Err.ensures.yields in
    before_prints _ _ _ (error_in c.args.format c.in-Err.e) _ _ c.print_refused.result (c.loop-module.invariant.printed told) last c.print_refused.ensures.prints

pub returns-in_err-print-clause-prints : goal.returns-in_err-print-clause-prints
returns-in_err-print-clause-prints g c = λ told.
    let so_far = c.loop-module.invariant in
    let text = rw c.clear.ensures.items at (c.in_ok-put_listed-in-Ok-Some.ensures.text told) in
    let printed = rw (c.deref.ensures.value, text, so_far.continues.file) at c.in_err-print.ensures.prints in
    let next = next_listed c.args.format c.args.several (in_file (g.T.ModuleText.text c.args.texts.now) c.args.pdb.now.file) c.args.pdb.now.file c.loop-module.k (modules_left c.loop-module.modules) (modules_left c.next.new.self) c.in-Ok-Some.module (rw c.in-Ok-Some.field-0-is at c.in-Ok-Some.ensures.yields) in
    prints_err _ _ _ c.from_residual-in_err-print.result _ c.from_residual-in_err-print.ensures.1 (before_halted _ _ _ _ _ _ _ (so_far.printed (c.put_listed.ensures.continues.told told)) next printed)

pub loop-module-preserved : goal.loop-module-preserved
loop-module-preserved g c =
    let so_far = c.loop-module.invariant in
    let next = next_listed c.args.format c.args.several (in_file (g.T.ModuleText.text c.args.texts.now) c.args.pdb.now.file) c.args.pdb.now.file c.loop-module.k (modules_left c.loop-module.modules) (modules_left c.next.new.self) c.in-Ok-Some.module (rw c.in-Ok-Some.field-0-is at c.in-Ok-Some.ensures.yields) in
    let stepped : modules_steps c.next.new.self ≡ modules_steps c.loop-module.modules + 1 = rw c.in-Ok-Some.field-0-is at c.in-Ok-Some.ensures.stepped in
    record {
      continues = continues_then _ _ _ so_far.continues c.put_listed.ensures.continues;
      counted = stepped ∙ ap (λ (n : ℕ). n + 1) so_far.counted;
      printed = λ told.
          let text = rw c.clear.ensures.items at (c.in_ok-put_listed-in-Ok-Some.ensures.text told) in
          let printed = rw (c.deref.ensures.value, text, so_far.continues.file) at c.in_ok-print.ensures.prints in
          before_more _ _ _ _ _ _ _ (so_far.printed (c.put_listed.ensures.continues.told told)) next printed;
      failures = c.in_ok-print.ensures.failures ∙ so_far.failures;
    }

pub loop-module-init : goal.loop-module-init
loop-module-init g c = record {
  continues = search rules;
  counted = c.requires;
  printed = λ told. before_none _ _;
  failures = refl;
}
