use Rattle.std.proofs.Common.{◌≡◌, ℕ, ◌+◌, ◌<◌, Bool, List, [], ◌∷◌, ◌&&◌, length, map, take, get_or, refl, sym, ap, ◌∙◌, arith}
use Rattle.std.proofs.lemmas.Grind.{common_steps}
use Rattle.std.proofs.lemmas.List.{take_all}
use Rattle.std.specs.List.{list_all}
use Rattle.tool_arguments.specs.Operands.{operand_view}
use Rattle.tool_arguments.specs.declared.operands.Operand.{Operand}
use Rattle.tool_output.specs.EachFile.{file_shown, is_well_in}
use Rattle.tool_printing.specs.Printing.{all_shown}
use Rattle.tool_printing.proofs.All.{all_halted, all_mapped, all_more, all_whole}
use Rattle.tool_printing.proofs.Printed.{prints_err}
use Rattle.tool_output.proofs.each_file.print_each_file.Goals as goal

all_of : {X Y : Type 0} (p : Y → Bool) (of : X → Y) (xs : List X) → list_all p (map of xs) ≡ list_all (λ x. p (of x)) xs
all_of p of [] = refl
all_of p of (x ∷ xs) = ap (λ b. p (of x) && b) (all_of p of xs)

pub returns-in_err-all-clause-prints : goal.returns-in_err-all-clause-prints
returns-in_err-all-clause-prints g c = λ known.
    let of = g.F.EachFile.printed c.args.files.now in
    let text = λ (name : Operand). file_shown (of (operand_view name)) in
    let halted = all_halted text _ _ _ c.args.names.now c.loop-name.name-index _ c.loop-name-test.true (c.loop-name.invariant.printed known) (c.in_err-all.ensures.prints known) in
    rw (all_mapped (λ name. file_shown (of name)) operand_view c.args.names.now) (prints_err (all_shown text c.args.names.now) _ _ c.from_residual.result _ c.from_residual.ensures.1 halted)

pub returns-clause-well : goal.returns-clause-well
returns-clause-well g c = λ known.
    let of = g.F.EachFile.printed c.args.files.now in
    let all = ap (list_all (λ (name : Operand). is_well_in (of (operand_view name)))) (take_all c.loop-name.name-index c.args.names.now c.loop-name-test.false) in
    c.loop-name.invariant.well known ∙ all ∙ sym (all_of (λ name. is_well_in (of name)) operand_view c.args.names.now)

pub returns-clause-prints : goal.returns-clause-prints
returns-clause-prints g c = λ known.
    let of = g.F.EachFile.printed c.args.files.now in
    let text = λ (name : Operand). file_shown (of (operand_view name)) in
    rw (all_mapped (λ name. file_shown (of name)) operand_view c.args.names.now) (all_whole text _ _ c.args.names.now c.loop-name.name-index c.loop-name-test.false (c.loop-name.invariant.printed known))

more_well : (p : Operand → Bool) (xs : List Operand) (i : ℕ) (d : Operand) → i < length xs → list_all p (take (i + 1) xs) ≡ (list_all p (take i xs) && p (get_or xs i d))
more_well p xs i d lt = grind (arith, common_steps)

pub loop-name-preserved : goal.loop-name-preserved
loop-name-preserved g c =
    let of = g.F.EachFile.printed c.args.files.now in
    let so_far = c.loop-name.invariant in
    record {
      printed = λ known. all_more (λ (name : Operand). file_shown (of (operand_view name))) _ _ _ c.args.names.now c.loop-name.name-index _ c.loop-name-test.true (so_far.printed known) (c.in_ok-all.ensures.prints known);
      well = λ known. rw (so_far.well known, c.in_ok-all.ensures.well known) (sym (more_well (λ name. is_well_in (of (operand_view name))) c.args.names.now c.loop-name.name-index _ c.loop-name-test.true));
      failures = c.in_ok-all.ensures.failures ∙ so_far.failures;
    }
