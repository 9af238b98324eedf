use Rattle.std.proofs.Common.{◌-◌, ◌<◌, [], ◌∷◌, length, ap, ◌∙◌, refl, arith}
use Rattle.pdb_base.specs.Left.{ended, Left}
use Rattle.pdb_modules.specs.declared.line_info.LineInfo.{LineInfo}
use Rattle.pdb_modules.specs.LineProgram.{ProgramOf, listed_subsections}
use Rattle.pdb_modules.specs.Lines.{Subsection, lines_of}
use Rattle.pdb_modules.specs.KeptRows.{subsection_of}
use Rattle.pdb_modules.specs.LineSearch.{first_covering}
use Rattle.pdb_modules.proofs.Chosen.{not_so, so, nothing_before, another_section, same_section}
use Rattle.pdb_modules.proofs.BlockSearches.{part_at}
use Rattle.pdb_modules.proofs.line_places.LinePlaces.find.Goals as goal

pub returns-then-upto-eq0 : goal.returns-then-upto-eq0
returns-then-upto-eq0 c =
    ap (λ (l : Left LineInfo). first_covering c.args.place l.items) (nothing_before _ _ _ c.count_upto-upto.result.count ended (ap listed_subsections c.as_slice.ensures.value ∙ ap (λ (p : ProgramOf). p.subsections) c.self.view_is) c.count_upto-upto.ensures.inside c.count_upto-upto.ensures.below c.count_upto-upto.ensures.above c.if-upto-eq0.true refl)

pub returns-then-not-upto : goal.returns-then-not-upto
returns-then-not-upto c =
    ap (λ (l : Left LineInfo). first_covering c.args.place l.items) (another_section _ _ _ c.count_upto-upto.result.count ended (ap listed_subsections c.as_slice.ensures.value ∙ ap (λ (p : ProgramOf). p.subsections) c.self.view_is) c.count_upto-upto.ensures.inside c.count_upto-upto.ensures.below c.count_upto-upto.ensures.above
    _ refl (omega arith) (λ d. c.count_upto-upto.ensures.elsewhere (not_so _ c.if-not-upto.true) d (omega arith)) refl)

pub returns : goal.returns
returns c =
    let seen = ap listed_subsections c.as_slice.ensures.value ∙ ap (λ (p : ProgramOf). p.subsections) c.self.view_is in
    let there : c.count_upto-upto.result.count - 1 < length c.self.inside.listed.items = omega (arith, c.if-upto-eq0.false, c.count_upto-upto.ensures.inside, ap length c.as_slice.ensures.value) in
    let part = c.part.result in
    c.find_in_part.ensures
    ∙ ap (λ (l : Left LineInfo). first_covering c.args.place l.items) (same_section _ _ _ c.count_upto-upto.result.count (lines_of (subsection_of part ∷ [])) seen c.count_upto-upto.ensures.inside c.count_upto-upto.ensures.below c.count_upto-upto.ensures.above
    _ refl (omega arith) (λ d. c.count_upto-upto.ensures.here (so _ c.if-not-upto.false) d (omega arith))
    (λ d. ap (λ (s : Subsection). lines_of (s ∷ [])) (ap subsection_of c.part.ensures ∙ part_at c.self.inside.listed.items _ (c.count_upto-upto.result.count - 1) c.index.result.now (ap (λ (p : ProgramOf). p.subsections) c.self.view_is) there c.index.ensures d)))
