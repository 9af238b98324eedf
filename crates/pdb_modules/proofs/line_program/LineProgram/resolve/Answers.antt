use Rattle.std.proofs.Common.{◌+◌, List, map, sym, subst, ◌∙◌, arith, ap}
use Rattle.std.proofs.lemmas.List.{take_all}
use Rattle.pdb_modules.specs.declared.line_subsection.LineSubsection.{LineSubsection}
use Rattle.std.proofs.lemmas.List.Sums.{sum_by-take-le}
use Rattle.pdb_modules.specs.LineProgram.{part_bytes}
use Rattle.pdb_modules.specs.LineOrder.{InOrder}
use Rattle.pdb_modules.specs.KeptRows.{subsection_of}
use Rattle.pdb_modules.proofs.ProgramLemmas.{resolved, step_on, step_behind, few_more}
use Rattle.pdb_modules.proofs.line_program.LineProgram.resolve.Goals as goal
use Rattle.pdb_modules.proofs.line_program.LineProgram.resolve.Goals.{then-is_none, else-is_none}

pub loop-part-preserved : goal.loop-part-preserved
loop-part-preserved c = record {
  partly = elim c.if-is_none.branch [
    | then-is_none w ↦ step_on c.loop-part.rows.items c.add_part.new.rows.items c.loop-part.listed.items c.list_part.new.listed.items c.loop-part.count c.if-is_none.count c.len-from.result _ c.len.result c.loop-part.fault c.if-is_none.fault _ c.args.parts.now c.loop-part.part-index c.part-item.result c.part-item.is c.loop-part.invariant.partly c.loop-part-test.true c.in_ok-stop.ensures.whole c.in_ok-stop.ensures.own c.in_ok-list_part.ensures.listed c.in_ok-stop.ensures.fault (omega (arith, c.loop-part.rows.ok.0)) (ap (λ n. c.len-from.result + n) c.given_count.ensures) (omega (arith, c.add_part.new.rows.ok.0)) (omega (arith, c.in_ok-stop.ensures.grows, c.loop-part.rows.ok.0)) w.len-then-is_none.result (omega (arith, w.len-then-is_none.ensures, c.add_part.new.rows.ok.0)) w.if-is_none.ensures w.fault-is (w.count-is ∙ w.given_count-count.ensures)
    | else-is_none w ↦ step_behind c.loop-part.rows.items c.add_part.new.rows.items c.loop-part.listed.items c.list_part.new.listed.items c.loop-part.count c.if-is_none.count c.len-from.result _ c.len.result c.loop-part.fault c.if-is_none.fault _ c.args.parts.now c.loop-part.part-index c.part-item.result c.part-item.is c.loop-part.invariant.partly c.loop-part-test.true c.in_ok-stop.ensures.whole c.in_ok-stop.ensures.own c.in_ok-list_part.ensures.listed c.in_ok-stop.ensures.fault (omega (arith, c.loop-part.rows.ok.0)) (ap (λ n. c.len-from.result + n) c.given_count.ensures) (omega (arith, c.add_part.new.rows.ok.0)) (omega (arith, c.in_ok-stop.ensures.grows, c.loop-part.rows.ok.0)) w.if-is_none.ensures w.fault-is w.count-is
  ];
  few = few_more c.args.parts.now c.loop-part.part-index c.part-item.result _ _ c.part-item.is c.loop-part-test.true c.loop-part.invariant.few c.in_ok-stop.ensures.grows;
}

pub invariant_of-result : goal.invariant_of-result
invariant_of-result c =
    resolved _ _ _ _ _ c.loop-part.invariant.partly c.args.lines_data.now
    (omega (arith, c.loop-part.rows.ok.0, c.loop-part.invariant.few, sum_by-take-le part_bytes c.args.parts.now c.loop-part.part-index, c.requires.room))
    (subst (λ (ps : List LineSubsection). InOrder (map subsection_of ps)) (sym (take_all c.loop-part.part-index c.args.parts.now c.loop-part-test.false)) c.requires.order)
