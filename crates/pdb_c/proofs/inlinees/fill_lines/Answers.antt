use Rattle.std.proofs.Common.{◌≡◌, ◌∷◌, sym, ◌∙◌}
use Rattle.pdb.specs.InlinedViews.{inlined_left}
use Rattle.pdb_c.specs.LineRows.{inlined_row}
use Rattle.pdb_c.proofs.ListSteps.{item_next, few_next, counted_next}
use Rattle.pdb_c.proofs.inlinees.fill_lines.Goals as goal

pub loop-line-preserved : goal.loop-line-preserved
loop-line-preserved c =
    let so_far = c.loop-line.invariant in
    let yields = rw c.in-Ok-Some.field-0-is at c.in-Ok-Some.ensures.yields in
    let old = (inlined_left c.loop-line.lines).items in
    let new = (inlined_left c.next.new.self).items in
    let e : old ≡ c.in-Ok-Some.line ∷ new = yields.0 in
    record {
      told = item_next (λ r. r) inlined_row c.loop-line.n c.named_row.result c.in-Ok-Some.line old new c.loop-line.records c.put_row.new.room _ e c.named_row.ensures c.put_row.ensures so_far.told;
      counted = counted_next c.loop-line.n c.in-Ok-Some.line old new _ e so_far.counted;
      fault = sym yields.1 ∙ so_far.fault;
      few = few_next c.loop-line.n c.in-Ok-Some.line old new _ e so_far.counted so_far.few c.next.ensures.few;
      room = c.put_row.auto.room ∙ so_far.room;
    }
