use Rattle.std.proofs.Common.{◌≡◌, ℕ, ◌+◌, ◌<◌, List, ◌++◌, length, flat_map, take, get_or, sym, ap, ◌∙◌, arith}
use Rattle.std.proofs.lemmas.Grind.{common_steps}
use Rattle.std.proofs.lemmas.List.{take_all}
use Rattle.tool_output.specs.ErrorObjects.{none_of}
use Rattle.tool_printing.specs.Printing.{shown}
use Rattle.tool_printing.proofs.Printed.{halted_none, prints_err}
use Rattle.tool_output.proofs.file_modules.print_each_missing.Goals as goal

more : (f : ℕ → List ℕ) (xs : List ℕ) (i : ℕ) → i < length xs → flat_map f (take (i + 1) xs) ≡ flat_map f (take i xs) ++ f (get_or xs i 0)
more f xs i lt = grind (arith, common_steps)

pub loop-k-preserved : goal.loop-k-preserved
loop-k-preserved g c = record {
  lines = rw c.from.ensures at c.in_ok-put_none_of.ensures ∙ (ap (λ (l : List ℕ). l ++ none_of c.args.format (get_or c.args.indices.now c.loop-k.k-index 0)) c.loop-k.invariant.lines ∙ sym (more (none_of c.args.format) c.args.indices.now c.loop-k.k-index c.loop-k-test.true));
}

pub returns-in_err-put_none_of-clause-prints : goal.returns-in_err-put_none_of-clause-prints
returns-in_err-put_none_of-clause-prints g c =
    prints_err _ _ _ c.from_residual.result _ c.from_residual.ensures.1 (halted_none (shown (flat_map (none_of c.args.format) c.args.indices.now)) (g.P.Printer.state c.args.out.now))

pub returns-in_err-print-clause-prints : goal.returns-in_err-print-clause-prints
returns-in_err-print-clause-prints g c =
    let whole = c.loop-k.invariant.lines ∙ ap (flat_map (none_of c.args.format)) (take_all c.loop-k.k-index c.args.indices.now c.loop-k-test.false) in
    let printed = rw (c.deref.ensures.value, whole) at c.in_err-print.ensures.prints in
    prints_err _ _ _ c.from_residual-in_err-print.result _ c.from_residual-in_err-print.ensures.1 printed
