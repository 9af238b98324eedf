use Rattle.tool_printing.proofs.Printed.{shows_nothing}
use Rattle.tool_output.proofs.absent.print_unless_absent.Goals as goal

pub returns-in-StreamNotFound-clause-prints : goal.returns-in-StreamNotFound-clause-prints
returns-in-StreamNotFound-clause-prints g c = rw c.in-StreamNotFound.is (shows_nothing (g.P.Printer.state c.args.out.now))

pub returns-in-GlobalSymbolsNotFound-clause-prints : goal.returns-in-GlobalSymbolsNotFound-clause-prints
returns-in-GlobalSymbolsNotFound-clause-prints g c = rw c.in-GlobalSymbolsNotFound.is (shows_nothing (g.P.Printer.state c.args.out.now))
