use Rattle.std.proofs.Common.{◌≡◌, ◌∷◌, sym, ◌∙◌}
use Rattle.pdb.specs.DbiViews.{contributions_left}
use Rattle.pdb_c.specs.ContributionRows.{contribution_row}
use Rattle.pdb_c.proofs.ListSteps.{item_next, few_next, counted_next}
use Rattle.pdb_c.proofs.contributions.fill.Goals as goal

pub loop-contribution-preserved : goal.loop-contribution-preserved
loop-contribution-preserved c =
    let so_far = c.loop-contribution.invariant in
    let yields = rw c.in-Ok-Some.field-0-is at c.in-Ok-Some.ensures.yields in
    let old = (contributions_left c.loop-contribution.contributions).items in
    let new = (contributions_left c.next.new.self).items in
    let e : old ≡ c.in-Ok-Some.contribution ∷ new = yields.0 in
    record {
      told = item_next (λ r. r) contribution_row c.loop-contribution.n c.shown.result c.in-Ok-Some.contribution old new c.loop-contribution.records c.put_row.new.room _ e c.shown.ensures c.put_row.ensures so_far.told;
      counted = counted_next c.loop-contribution.n c.in-Ok-Some.contribution old new _ e so_far.counted;
      fault = sym yields.1 ∙ so_far.fault;
      few = few_next c.loop-contribution.n c.in-Ok-Some.contribution old new _ e so_far.counted so_far.few c.next.ensures.few;
      room = c.put_row.auto.room ∙ so_far.room;
    }
