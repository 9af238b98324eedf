use Rattle.std.proofs.Common.{sym}
use Rattle.tool_printing.proofs.Marks.{marked}
use Rattle.tool_printing.proofs.printer.has_mark.Goals as goal

pub returns-in-Some : goal.returns-in-Some
returns-in-Some c = sym (marked c.args.text.now c.in-Some.field-0 c.in-Some.ensures.there.0 c.in-Some.ensures.there.1)
