use Rattle.std.proofs.Common.{rules, refl, ◌∙◌}
use Rattle.pdb.proofs.Passing.{continues_then}
use Rattle.tool_addresses.specs.AnsweredLines.{lines_of}
use Rattle.tool_addresses.specs.RequestTexts.{line_shown}
use Rattle.tool_addresses.proofs.AnsweredLines.{answered_end, answered_halted, answered_more, answered_none, answered_so_far, answered_upto, if_some_on, stopped_by}
use Rattle.tool_printing.specs.Printing.{Halted, Prints, all_shown}
use Rattle.tool_printing.proofs.Printed.{prints_err}
use Rattle.tool_addresses.proofs.lines.answer_lines.Goals as goal

pub loop-init : goal.loop-init
loop-init g c = record {
  continues = search rules;
  answered = λ told. answered_none (line_shown c.args.resolver.now.file c.args.options) (g.R.Read.remaining c.args.input.now) (g.P.Printer.state c.args.out.now);
  failures = refl;
}

pub returns-in_err-answer_line-clause-prints : goal.returns-in_err-answer_line-clause-prints
returns-in_err-answer_line-clause-prints g c = λ told.
    let so_far = c.loop.invariant in
    let answer = line_shown c.args.resolver.now.file c.args.options in
    let halted = rw so_far.continues.file at (c.in_err-answer_line.ensures.prints told) in
    let all = answered_halted answer (g.R.Read.remaining c.args.input.now) (g.R.Read.remaining c.loop.input) (g.P.Printer.state c.args.out.now) (g.P.Printer.state c.loop.out) (g.P.Printer.state c.answer_line.new.out) (so_far.answered (c.answer_line.ensures.continues.told told)) halted in
    if_some_on (λ xs. Halted (all_shown answer (lines_of xs)) (g.P.Printer.state c.args.out.now) (g.P.Printer.state c.answer_line.new.out)) (λ xs. Prints (all_shown answer (lines_of xs)) (g.P.Printer.state c.args.out.now) (g.P.Printer.state c.answer_line.new.out) c.from_residual.result) (g.R.Read.remaining c.args.input.now)
    (λ xs h. prints_err (all_shown answer (lines_of xs)) _ _ c.from_residual.result _ c.from_residual.ensures.1 h) all

pub returns-in_err-answer_line-clause-order : goal.returns-in_err-answer_line-clause-order
returns-in_err-answer_line-clause-order g c = λ told stopped.
    let so_far = c.loop.invariant in
    let answer = line_shown c.args.resolver.now.file c.args.options in
    let halted = rw so_far.continues.file at (c.in_err-answer_line.ensures.prints told) in
    let read = c.in_err-answer_line.ensures.unprinted (stopped_by c.from_residual.result c.in_err-answer_line.field-0.0 _ c.from_residual.ensures.1 stopped) in
    answered_upto answer (g.R.Read.remaining c.args.input.now) (g.R.Read.remaining c.loop.input) (g.R.Read.remaining c.answer_line.new.input) (g.P.Printer.state c.args.out.now) (g.P.Printer.state c.loop.out) (g.P.Printer.state c.answer_line.new.out) (so_far.answered (c.answer_line.ensures.continues.told told)) read halted

pub returns-then-not-branch-clause-prints : goal.returns-then-not-branch-clause-prints
returns-then-not-branch-clause-prints g c = λ told.
    let so_far = c.loop.invariant in
    let printed = rw so_far.continues.file at (c.in_ok-answer_line.ensures.prints told) in
    answered_end (line_shown c.args.resolver.now.file c.args.options) (g.R.Read.remaining c.args.input.now) (g.R.Read.remaining c.loop.input) (g.P.Printer.state c.args.out.now) (g.P.Printer.state c.loop.out) (g.P.Printer.state c.answer_line.new.out) (so_far.answered (c.answer_line.ensures.continues.told told)) (c.in_ok-answer_line.ensures.end c.if-not-branch.true) printed

pub loop-preserved : goal.loop-preserved
loop-preserved g c =
    let so_far = c.loop.invariant in
    let on = c.answer_line.ensures.continues in
    record {
      continues = continues_then _ _ _ so_far.continues on;
      answered = λ told.
          let printed = rw so_far.continues.file at (c.in_ok-answer_line.ensures.prints told) in
          answered_more (line_shown c.args.resolver.now.file c.args.options) (g.R.Read.remaining c.args.input.now) (g.R.Read.remaining c.loop.input) (g.R.Read.remaining c.answer_line.new.input) (g.P.Printer.state c.args.out.now) (g.P.Printer.state c.loop.out) (g.P.Printer.state c.answer_line.new.out) (so_far.answered (on.told told)) c.in_ok-answer_line.ensures.read printed;
      failures = c.in_ok-answer_line.ensures.failures ∙ so_far.failures;
    }

pub returns-clause-prints : goal.returns-clause-prints
returns-clause-prints g c = λ told.
    let so_far = c.loop.invariant in
    answered_so_far (line_shown c.args.resolver.now.file c.args.options) (g.R.Read.remaining c.args.input.now) (g.R.Read.remaining c.loop.input) (g.P.Printer.state c.args.out.now) (g.P.Printer.state c.loop.out) (so_far.answered told)
