use Rattle.std.proofs.Common.{◌≡◌, ◌+◌, [], ◌∷◌, ◌++◌, sym, ap, ◌∙◌, take, nat_cmp}
use Rattle.std.specs.Prelude.{◌==◌}
use Rattle.std.specs.BTreeMap.{get}
use Rattle.std.proofs.lemmas.List.{take_all, take_more}
use Rattle.pdb_places.specs.declared.range.CodeRange.{CodeRange}
use Rattle.pdb_code.specs.Kept.{least_among}
use Rattle.pdb_code.proofs.LeastOffsets.{least_more, lowered_as, with_one}
use Rattle.pdb_code.proofs.leading.least_of.Goals as goal

pub loop-range-preserved : goal.loop-range-preserved
loop-range-preserved c = λ s.
    let item = c.range-item.result in
    let i = c.loop-range.range-index in
    let rs = c.args.ranges.now in
    let next : take (i + 1) rs ≡ take i rs ++ item ∷ [] = take_more rs i item c.loop-range-test.true ∙ ap (λ (r : CodeRange). take i rs ++ r ∷ []) (sym c.range-item.is) in
    c.in_ok-lower.ensures.lowered s
    ∙ (lowered_as (item.place.section == s) item.place.offset (get nat_cmp c.loop-range.least s)
    ∙ (ap (with_one (item.place.section == s) item.place.offset) (c.loop-range.invariant s)
    ∙ (sym (least_more s (take i rs) item) ∙ sym (ap (least_among s) next))))

pub returns-clause-least : goal.returns-clause-least
returns-clause-least c = λ s. c.loop-range.invariant s ∙ ap (least_among s) (take_all c.loop-range.range-index c.args.ranges.now c.loop-range-test.false)
