use Rattle.std.proofs.Common.{ap}
use Rattle.pdb.proofs.Passing.{may_after}
use Rattle.tool_search.specs.FindTexts.{Finding, find_in, globals_found}
use Rattle.tool_output.specs.ModuleTexts.{plain_text}
use Rattle.tool_output.proofs.Stops.{halts_then}
use Rattle.tool_printing.specs.Printing.{shown}
use Rattle.tool_printing.proofs.Marks.{shown-append}
use Rattle.tool_printing.proofs.Printed.{halted_more, halted_none, prints_err, prints_then}
use Rattle.tool_search.proofs.lookups.print_found.Goals as goal

pub returns-clause-prints : goal.returns-clause-prints
returns-clause-prints g c = λ told.
    let t1 = c.print_plain.ensures.continues.told told in
    let globals = globals_found c.args.pdb.now.file c.args.finder.now in
    let modules = plain_text c.args.finder.now.format (find_in c.args.finder.now c.args.pdb.now.file) c.args.pdb.now.file in
    let first = rw (c.deref.ensures.value, (c.in_ok-put_globals.ensures.text t1), c.new-text.ensures.items) at c.in_ok-print.ensures.prints in
    let format = ap (λ (f : Finding). f.format) c.finder.view_is in
    let second = rw (c.put_globals.ensures.continues.file, format) at (c.print_plain.ensures.prints told) in
    rw (shown-append globals modules) (prints_then (shown globals) (shown modules) _ _ _ c.print_plain.result first second)

pub returns-in_err-print-clause-prints : goal.returns-in_err-print-clause-prints
returns-in_err-print-clause-prints g c = λ told.
    let globals = globals_found c.args.pdb.now.file c.args.finder.now in
    let modules = plain_text c.args.finder.now.format (find_in c.args.finder.now c.args.pdb.now.file) c.args.pdb.now.file in
    let first = rw (c.deref.ensures.value, (c.in_ok-put_globals.ensures.text told), c.new-text.ensures.items) at c.in_err-print.ensures.prints in
    rw (shown-append globals modules) (prints_err _ _ _ c.from_residual-in_err-print.result _ c.from_residual-in_err-print.ensures.1 (halted_more (shown globals) (shown modules) _ _ first))

pub returns-clause-halts : goal.returns-clause-halts
returns-clause-halts g c =
    halts_then _ _ _ _ _ c.print_plain.result (may_after _ _ _ c.put_globals.ensures.continues) c.in_ok-print.ensures.failures c.print_plain.ensures.halts
