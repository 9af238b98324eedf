use Rattle.std.proofs.Common.{refl}
use Rattle.pdb_places.proofs.Halves.{goes_up, goes_down, all_halved}
use Rattle.pdb_places.proofs.ranges.halve.Goals as goal

pub loop-low-preserved-then-end-at : goal.loop-low-preserved-then-end-at
loop-low-preserved-then-end-at c =
    rw c.tick.ensures (goes_up c.args.place c.args.ranges.now c.loop-low.low c.loop-low.high _ _ _ _ c.order_of-at.ensures.fits c.loop-low.invariant c.requires c.loop-low-test.true refl _ c.index-ranges-middle.is (rw (← c.end.ensures, ← c.order_of-at.ensures.order) c.if-end-at.true))

pub loop-low-preserved : goal.loop-low-preserved
loop-low-preserved c =
    rw (c.tick.ensures, c.payload_upto-found.ensures, c.order_of-at.ensures.order) (goes_down c.args.place c.args.ranges.now c.loop-low.low c.loop-low.high _ _ _ _ c.order_of-at.ensures.fits c.loop-low.invariant c.requires c.loop-low-test.true refl _ c.index-ranges-middle.is (rw (← c.end.ensures, ← c.order_of-at.ensures.order) c.if-end-at.false))

pub returns-clause-found : goal.returns-clause-found
returns-clause-found c = all_halved _ _ _ _ _ _ _ c.order_of-at.ensures.fits c.loop-low.invariant c.loop-low-test.false
