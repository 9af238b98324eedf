use Rattle.std.proofs.Common.{◌≡◌, ◌∷◌, sym, ◌∙◌}
use Rattle.pdb_records.specs.RecordViews.{gaps_left}
use Rattle.pdb_c.specs.RecordNumbers.{gap_row}
use Rattle.pdb_c.proofs.ListSteps.{item_next, few_next, counted_next}
use Rattle.pdb_c.proofs.gaps.fill.Goals as goal

pub loop-gap-preserved : goal.loop-gap-preserved
loop-gap-preserved c =
    let so_far = c.loop-gap.invariant in
    let yields = rw c.in-Ok-Some.field-0-is at c.in-Ok-Some.ensures.yields in
    let old = (gaps_left c.loop-gap.gaps).items in
    let new = (gaps_left c.next.new.self).items in
    let e : old ≡ c.in-Ok-Some.gap ∷ new = yields.0 in
    record {
      told = item_next (λ r. r) gap_row c.loop-gap.n c.gap_row.result c.in-Ok-Some.gap old new c.loop-gap.rows c.put_row.new.room _ e c.gap_row.ensures c.put_row.ensures so_far.told;
      counted = counted_next c.loop-gap.n c.in-Ok-Some.gap old new _ e so_far.counted;
      fault = sym yields.1 ∙ so_far.fault;
      few = few_next c.loop-gap.n c.in-Ok-Some.gap old new _ e so_far.counted so_far.few c.next.ensures.few;
      room = c.put_row.auto.room ∙ so_far.room;
    }
