use Rattle.std.proofs.Common.{ap, ◌∙◌, refl, arith}
use Rattle.pdb_modules.specs.LineProgram.{ProgramOf, listed_subsections}
use Rattle.pdb_base.specs.Left.{ended}
use Rattle.pdb_modules.proofs.Chosen.{not_so, so, nothing_before, another_section, same_section, no_part, part_elsewhere, part_here}
use Rattle.pdb_modules.proofs.line_program.LineProgram.lines_for_symbol_counted.Goals as goal

pub returns-then-upto-eq0-clause-left : goal.returns-then-upto-eq0-clause-left
returns-then-upto-eq0-clause-left c =
    nothing_before _ _ _ c.count_upto-upto.result.count _ (ap listed_subsections c.as_slice.ensures.value ∙ ap (λ (p : ProgramOf). p.subsections) c.self.view_is) c.count_upto-upto.ensures.inside c.count_upto-upto.ensures.below c.count_upto-upto.ensures.above c.if-upto-eq0.true c.new.ensures.left

pub returns-then-not-upto-clause-left : goal.returns-then-not-upto-clause-left
returns-then-not-upto-clause-left c =
    another_section _ _ _ c.count_upto-upto.result.count _ (ap listed_subsections c.as_slice.ensures.value ∙ ap (λ (p : ProgramOf). p.subsections) c.self.view_is) c.count_upto-upto.ensures.inside c.count_upto-upto.ensures.below c.count_upto-upto.ensures.above
    _ refl (omega arith) (λ d. c.count_upto-upto.ensures.elsewhere (not_so _ c.if-not-upto.true) d (omega arith)) c.new-then-not-upto.ensures.left

pub returns-clause-left : goal.returns-clause-left
returns-clause-left c =
    same_section _ _ _ c.count_upto-upto.result.count _ (ap listed_subsections c.as_slice.ensures.value ∙ ap (λ (p : ProgramOf). p.subsections) c.self.view_is) c.count_upto-upto.ensures.inside c.count_upto-upto.ensures.below c.count_upto-upto.ensures.above
    _ refl (omega arith) (λ d. c.count_upto-upto.ensures.here (so _ c.if-not-upto.false) d (omega arith)) c.lines_at.ensures.left

pub returns-then-upto-eq0-clause-part : goal.returns-then-upto-eq0-clause-part
returns-then-upto-eq0-clause-part c =
    no_part _ _ _ c.count_upto-upto.result.count ended (ap listed_subsections c.as_slice.ensures.value ∙ ap (λ (p : ProgramOf). p.subsections) c.self.view_is) c.count_upto-upto.ensures.inside c.count_upto-upto.ensures.below c.count_upto-upto.ensures.above _ c.if-upto-eq0.true c.new.ensures.part

pub returns-then-not-upto-clause-part : goal.returns-then-not-upto-clause-part
returns-then-not-upto-clause-part c =
    part_elsewhere _ _ _ c.count_upto-upto.result.count ended (ap listed_subsections c.as_slice.ensures.value ∙ ap (λ (p : ProgramOf). p.subsections) c.self.view_is) c.count_upto-upto.ensures.inside c.count_upto-upto.ensures.below c.count_upto-upto.ensures.above
    _ refl (omega arith) _ (λ d. c.count_upto-upto.ensures.elsewhere (not_so _ c.if-not-upto.true) d (omega arith)) c.new-then-not-upto.ensures.part

pub returns-clause-part : goal.returns-clause-part
returns-clause-part c =
    part_here _ _ _ c.count_upto-upto.result.count ended (ap listed_subsections c.as_slice.ensures.value ∙ ap (λ (p : ProgramOf). p.subsections) c.self.view_is) c.count_upto-upto.ensures.inside c.count_upto-upto.ensures.below c.count_upto-upto.ensures.above
    _ refl (omega arith) _ (λ d. c.count_upto-upto.ensures.here (so _ c.if-not-upto.false) d (omega arith)) c.lines_at.ensures.part
