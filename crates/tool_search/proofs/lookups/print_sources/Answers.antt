use Rattle.std.specs.Prelude.{ℕ, option_copied}
use Rattle.pdb.proofs.Passing.{may_after}
use Rattle.tool_search.specs.SourceTexts.{sources_text}
use Rattle.tool_output.specs.ModuleTexts.{modules_text}
use Rattle.tool_output.proofs.Stops.{halts_weaken}
use Rattle.tool_printing.specs.Printing.{Prints, shown}
use Rattle.tool_search.proofs.lookups.print_sources.Goals as goal

pub returns-clause-prints : goal.returns-clause-prints
returns-clause-prints g c = λ told.
    let t1 = c.print_modules.ensures.continues.told told in
    let printed : Prints (shown (modules_text c.args.format (λ (k : ℕ). sources_text c.args.format k (option_copied c.as_ref.result)) c.strings_of.new.pdb.file c.args.indices.now)) (g.P.Printer.state c.args.out.now) (g.P.Printer.state c.print_modules.new.out) c.print_modules.result = c.print_modules.ensures.prints told in
    rw (c.as_ref.ensures.value, (c.in_ok-strings.ensures.is t1), c.strings_of.ensures.continues.file) at printed

pub returns-clause-halts : goal.returns-clause-halts
returns-clause-halts g c = halts_weaken _ _ _ _ c.print_modules.result (may_after _ _ _ c.strings_of.ensures.continues) c.print_modules.ensures.halts
