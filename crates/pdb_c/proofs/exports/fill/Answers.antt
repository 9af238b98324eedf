use Rattle.std.proofs.Common.{◌≡◌, ◌∷◌, sym, ◌∙◌}
use Rattle.pdb.specs.ModuleViews.{exports_left}
use Rattle.pdb_c.specs.CrossRows.{export_row}
use Rattle.pdb_c.proofs.ListSteps.{item_next, few_next, counted_next}
use Rattle.pdb_c.proofs.exports.fill.Goals as goal

pub loop-export-preserved : goal.loop-export-preserved
loop-export-preserved c =
    let so_far = c.loop-export.invariant in
    let yields = rw c.in-Ok-Some.field-0-is at c.in-Ok-Some.ensures.yields in
    let old = (exports_left c.loop-export.exports).items in
    let new = (exports_left c.next.new.self).items in
    let e : old ≡ c.in-Ok-Some.export ∷ new = yields.0 in
    record {
      told = item_next (λ r. r) export_row c.loop-export.n c.shown.result c.in-Ok-Some.export old new c.loop-export.records c.put_row.new.room _ e c.shown.ensures c.put_row.ensures so_far.told;
      counted = counted_next c.loop-export.n c.in-Ok-Some.export old new _ e so_far.counted;
      fault = sym yields.1 ∙ so_far.fault;
      few = few_next c.loop-export.n c.in-Ok-Some.export old new _ e so_far.counted so_far.few c.next.ensures.few;
      room = c.put_row.auto.room ∙ so_far.room;
    }
