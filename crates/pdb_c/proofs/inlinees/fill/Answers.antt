use Rattle.std.proofs.Common.{◌≡◌, ◌∷◌, sym, ◌∙◌}
use Rattle.pdb.specs.ModuleViews.{inlinees_left}
use Rattle.pdb_c.specs.InlineeRows.{inlinee_row}
use Rattle.pdb_c.proofs.ListSteps.{item_next, few_next, counted_next}
use Rattle.pdb_c.proofs.inlinees.fill.Goals as goal

pub loop-inlinee-preserved : goal.loop-inlinee-preserved
loop-inlinee-preserved c =
    let so_far = c.loop-inlinee.invariant in
    let yields = rw c.in-Ok-Some.field-0-is at c.in-Ok-Some.ensures.yields in
    let old = (inlinees_left c.loop-inlinee.inlinees).items in
    let new = (inlinees_left c.next.new.self).items in
    let e : old ≡ c.in-Ok-Some.inlinee ∷ new = yields.0 in
    record {
      told = item_next (λ r. r) (inlinee_row c.args.places.now) c.loop-inlinee.n c.shown.result c.in-Ok-Some.inlinee old new c.loop-inlinee.records c.put_row.new.room _ e c.shown.ensures c.put_row.ensures so_far.told;
      counted = counted_next c.loop-inlinee.n c.in-Ok-Some.inlinee old new _ e so_far.counted;
      fault = sym yields.1 ∙ so_far.fault;
      few = few_next c.loop-inlinee.n c.in-Ok-Some.inlinee old new _ e so_far.counted so_far.few c.next.ensures.few;
      room = c.put_row.auto.room ∙ so_far.room;
    }
