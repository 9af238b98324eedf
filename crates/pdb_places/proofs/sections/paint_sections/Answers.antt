use Rattle.std.proofs.Common.{◌≡◌, arith, List, sym, subst, take, ap, length}
use Rattle.std.proofs.lemmas.Result.{IfOk-weaker}
use Rattle.std.proofs.lemmas.List.{length-take}
use Rattle.pdb.specs.ImageSectionHeader.{ImageSectionHeader}
use Rattle.pdb_places.specs.declared.span.Span.{Span}
use Rattle.pdb_places.specs.PaintedSections.{AreSectionSpans}
use Rattle.pdb_places.proofs.PaintedSections.{cuts_of_sections}
use Rattle.pdb_places.proofs.sections.paint_sections.Goals as goal

pub spans_of-requires : goal.spans_of-requires
spans_of-requires c =
    let same : length c.nameable.result.now ≡ length (take 65535 c.args.sections.now) = ap (λ (l : List ImageSectionHeader). length l) c.nameable.ensures in
    omega (arith, same, length-take 65535 c.args.sections.now)

pub returns-clause-cuts : goal.returns-clause-cuts
returns-clause-cuts c =
    let named = subst (λ (l : List ImageSectionHeader). AreSectionSpans l c.in_ok-spans.spans.items) c.nameable.ensures c.in_ok-spans.ensures.spans in
    let spans = subst (λ (l : List Span). AreSectionSpans (take 65535 c.args.sections.now) l) (sym c.as_slice.ensures.value) named in
    IfOk-weaker c.paint.result _ _ (λ cuts painted. cuts_of_sections c.args.sections.now c.as_slice.result.now cuts.items spans painted) c.paint.ensures.painted
