use Rattle.std.proofs.Common.{ℕ, List, Option, subst}
use Rattle.pdb.specs.ModuleStream.{ModuleBytes}
use Rattle.pdb.proofs.Passing.{continues_then, may_after}
use Rattle.tool_types.specs.LineNames.{names_from}
use Rattle.tool_output.specs.ModuleTexts.{in_file, all_text}
use Rattle.tool_output.proofs.Stops.{halts_weaken}
use Rattle.tool_symbols.specs.SymbolTexts.{symbols_text}
use Rattle.tool_arguments.specs.declared.options.OutputFormat.TheVariants.{Text}
use Rattle.tool_printing.specs.Printing.{Prints, shown}
use Rattle.tool_symbols.proofs.commands.print_all_symbols.Goals as goal

pub returns-clause-prints : goal.returns-clause-prints
returns-clause-prints g c = λ told.
    let t3 = c.print_all.ensures.continues.told told in
    let t2 = c.machine_of_file.ensures.continues.told t3 in
    let t1 = c.types_stream.ensures.continues.told t2 in
    let t = c.in_ok-tables.tables in
    let p = c.machine_of_file.new.pdb.file in
    let named = subst (λ (f : List ℕ → Option ℕ). Prints (shown (all_text Text (in_file (λ (ids : ℕ → Option ℕ) (k : ℕ) (m : ModuleBytes). symbols_text (names_from t.ids t.types f ids) t.header m) p) p)) (g.P.Printer.state c.args.out.now) (g.P.Printer.state c.print_all.new.out) c.print_all.result) c.in_ok-tables.ensures.definitions (c.print_all.ensures.prints told) in
    rw (c.in_ok-tables.ensures.ids, c.in_ok-tables.ensures.types, c.in_ok-tables.ensures.header, c.as_ref.ensures.value, c.as_ref-2.ensures.value, (c.in_ok-ids.ensures.is t1), (c.in_ok-types.ensures.is t2), (c.in_ok-header.ensures.is t3), c.machine_of_file.ensures.continues.file, c.types_stream.ensures.continues.file, c.ids_stream.ensures.continues.file) at named

pub returns-clause-halts : goal.returns-clause-halts
returns-clause-halts g c =
    let on = continues_then _ _ _ (continues_then _ _ _ c.ids_stream.ensures.continues c.types_stream.ensures.continues) c.machine_of_file.ensures.continues in
    halts_weaken _ _ _ _ c.print_all.result (may_after _ _ _ on) c.print_all.ensures.halts
