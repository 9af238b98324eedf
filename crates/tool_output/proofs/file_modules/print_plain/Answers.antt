use Rattle.tool_output.specs.ModuleTexts.{plain_text}
use Rattle.tool_printing.proofs.Printed.{shows_nothing}
use Rattle.tool_output.proofs.file_modules.print_plain.Goals as goal

pub returns-then-lacks-clause-prints : goal.returns-then-lacks-clause-prints
unfolding plain_text
returns-then-lacks-clause-prints g c = λ told. rw (← c.if-lacks.ensures told) (shows_nothing (g.P.Printer.state c.args.out.now))
