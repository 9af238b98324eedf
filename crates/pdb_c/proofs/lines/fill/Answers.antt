use Rattle.std.proofs.Common.{◌≡◌, ◌∷◌, sym, ◌∙◌}
use Rattle.pdb.specs.LineViews.{lines_left}
use Rattle.pdb_c.specs.LineRows.{line_row}
use Rattle.pdb_c.proofs.ListSteps.{item_next, few_next, counted_next}
use Rattle.pdb_c.proofs.lines.fill.Goals as goal

pub loop-line-preserved : goal.loop-line-preserved
loop-line-preserved c =
    let so_far = c.loop-line.invariant in
    let yields = rw c.in-Ok-Some.field-0-is at c.in-Ok-Some.ensures.yields in
    let old = (lines_left c.loop-line.lines).items in
    let new = (lines_left c.next.new.self).items in
    let e : old ≡ c.in-Ok-Some.line ∷ new = yields.0 in
    record {
      told = item_next (λ r. r) (line_row c.args.program.now.checksums) c.loop-line.n c.shown.result c.in-Ok-Some.line old new c.loop-line.records c.put_row.new.room _ e c.shown.ensures c.put_row.ensures so_far.told;
      counted = counted_next c.loop-line.n c.in-Ok-Some.line old new _ e so_far.counted;
      fault = sym yields.1 ∙ so_far.fault;
      few = few_next c.loop-line.n c.in-Ok-Some.line old new _ e so_far.counted so_far.few c.next.ensures.few;
      room = c.put_row.auto.room ∙ so_far.room;
    }
