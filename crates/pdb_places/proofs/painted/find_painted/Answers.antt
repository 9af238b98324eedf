use Rattle.std.proofs.Common.{refl, ◌∙◌, ap}
use Rattle.pdb_places.specs.Painting.{owner_upto}
use Rattle.pdb_places.proofs.CutHalves.{cuts_up, cuts_down, cuts_halved}
use Rattle.pdb_places.proofs.painted.find_painted.Goals as goal

pub loop-low-preserved-then-cut_at-at : goal.loop-low-preserved-then-cut_at-at
loop-low-preserved-then-cut_at-at c =
    rw c.tick.ensures (cuts_up c.args.at c.args.cuts.now c.loop-low.low c.loop-low.high _ c.loop-low.found _ _ c.loop-low.invariant c.loop-low-test.true refl
    (λ d. rw (← c.cut_at.ensures d) c.if-cut_at-at.true))

pub loop-low-preserved : goal.loop-low-preserved
loop-low-preserved c =
    rw c.tick.ensures (cuts_down c.args.at c.args.cuts.now c.loop-low.low c.loop-low.high _ c.loop-low.found _ _ c.loop-low.invariant c.loop-low-test.true refl c.owner_upto-found.result
    (λ d. rw (← c.cut_at.ensures d) c.if-cut_at-at.false)
    (λ d. c.owner_upto-found.ensures ∙ ap (owner_upto c.args.at) (c.cut_at-else-cut_at-at.ensures d)))

pub returns-clause-found : goal.returns-clause-found
returns-clause-found c = cuts_halved c.args.at c.args.cuts.now c.loop-low.low c.loop-low.high c.loop-low.found _ _ c.requires c.loop-low.invariant c.loop-low-test.false
