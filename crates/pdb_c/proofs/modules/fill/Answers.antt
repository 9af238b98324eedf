use Rattle.std.proofs.Common.{◌≡◌, ◌∷◌, sym, ◌∙◌}
use Rattle.pdb.specs.DbiViews.{modules_left}
use Rattle.pdb_c.specs.Numbers.{entry_of}
use Rattle.pdb_c.proofs.ListSteps.{item_next, few_next, counted_next}
use Rattle.pdb_c.proofs.modules.fill.Goals as goal

pub loop-module-preserved : goal.loop-module-preserved
loop-module-preserved c =
    let so_far = c.loop-module.invariant in
    let yields = rw c.in-Ok-Some.field-0-is at c.in-Ok-Some.ensures.yields in
    let old = (modules_left c.loop-module.modules).items in
    let new = (modules_left c.next.new.self).items in
    let e : old ≡ c.in-Ok-Some.module ∷ new = yields.0 in
    record {
      told = item_next entry_of (λ m. m) c.loop-module.n c.shown.result c.in-Ok-Some.module old new c.loop-module.records c.put_row.new.room _ e c.shown.ensures c.put_row.ensures so_far.told;
      counted = counted_next c.loop-module.n c.in-Ok-Some.module old new _ e so_far.counted;
      fault = sym yields.1 ∙ so_far.fault;
      few = few_next c.loop-module.n c.in-Ok-Some.module old new _ e so_far.counted so_far.few c.next.ensures.few;
      room = c.put_row.auto.room ∙ so_far.room;
    }
