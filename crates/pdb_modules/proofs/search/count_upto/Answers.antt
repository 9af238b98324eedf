use Rattle.std.proofs.Common.{ap, refl, ◌∙◌, arith}
use Rattle.pdb_modules.specs.declared.line_program.Listed.{Listed}
use Rattle.pdb_modules.proofs.Halving.{goes_up, goes_down, ends_here, ends_elsewhere}
use Rattle.pdb_modules.proofs.search.count_upto.Goals as goal

pub loop-low-preserved-in-Behind : goal.loop-low-preserved-in-Behind
loop-low-preserved-in-Behind c =
    rw c.tick.ensures (record {
      halved = goes_down _ _ _ _ _ _ _ _ c.loop-low.invariant.halved c.requires c.loop-low-test.true refl _ (c.place.ensures ∙ ap (λ (l : Listed). l.part.place) c.index-listed-middle.is) (c.stands_to.ensures.behind c.in-Behind.is);
      section = c.loop-low.invariant.section;
    })

pub loop-low-preserved-in-Upto : goal.loop-low-preserved-in-Upto
loop-low-preserved-in-Upto c =
    let stands = c.stands_to.ensures.upto c.in-Upto.is in
    rw c.tick.ensures (record {
      halved = goes_up _ _ _ _ _ _ _ _ c.loop-low.invariant.halved c.requires c.loop-low-test.true refl _ (c.place.ensures ∙ ap (λ (l : Listed). l.part.place) c.index-listed-middle.is) stands.0;
      section = ends_here _ _ _ _ (omega (arith, c.loop-low.invariant.halved.inside, c.loop-low-test.true)) _ (c.place.ensures ∙ ap (λ (l : Listed). l.part.place) c.index-listed-middle.is) stands.1;
    })

pub loop-low-preserved : goal.loop-low-preserved
loop-low-preserved c =
    let stands = c.stands_to.ensures.earlier c.in-Earlier.is in
    rw c.tick.ensures (record {
      halved = goes_up _ _ _ _ _ _ _ _ c.loop-low.invariant.halved c.requires c.loop-low-test.true refl _ (c.place.ensures ∙ ap (λ (l : Listed). l.part.place) c.index-listed-middle.is) stands.0;
      section = ends_elsewhere _ _ _ _ (omega (arith, c.loop-low.invariant.halved.inside, c.loop-low-test.true)) _ (c.place.ensures ∙ ap (λ (l : Listed). l.part.place) c.index-listed-middle.is) stands.1;
    })
