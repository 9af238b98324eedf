use Rattle.tool_output.specs.ModuleTexts.{plain_listed}
use Rattle.tool_output.proofs.module_printing.print_plain_listed.Goals as goal

pub returns-in-Ok-modules-clause-prints : goal.returns-in-Ok-modules-clause-prints
unfolding plain_listed
returns-in-Ok-modules-clause-prints g c = λ told.
    let t1 = c.print_left.ensures.continues.told told in
    let printed = rw (c.debug_information.ensures.continues.file) at (c.print_left.ensures.prints told) in
    rw (c.in-Ok.ensures.answer t1, c.in-Ok-modules.ensures.left) printed
