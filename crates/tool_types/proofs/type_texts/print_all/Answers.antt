use Rattle.tool_printing.proofs.Printed.{shows_nothing}
use Rattle.tool_types.proofs.type_texts.print_all.Goals as goal

pub returns-then-lacks-clause-prints : goal.returns-then-lacks-clause-prints
returns-then-lacks-clause-prints g c = λ told. rw (← c.if-lacks.ensures told) (shows_nothing (g.P.Printer.state c.args.out.now))
