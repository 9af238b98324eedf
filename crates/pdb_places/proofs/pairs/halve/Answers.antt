use Rattle.std.proofs.Common.{refl}
use Rattle.pdb_places.proofs.Keyed.{keyed_up, keyed_down, keyed_probes, keyed_few}
use Rattle.pdb_places.proofs.TablePairs.{rises_numbers, pairs_count}
use Rattle.pdb_places.proofs.pairs.halve.Goals as goal

pub loop-low-preserved-then-from-address : goal.loop-low-preserved-then-from-address
loop-low-preserved-then-from-address c =
    rw c.tick.ensures (keyed_up _ _ _ _ _ _ _ _ c.loop-low.invariant (rises_numbers c.args.table.now c.requires) c.loop-low-test.true refl (rw (← c.from_of-from.ensures, ← c.from.ensures) c.if-from-address.true))

pub loop-low-preserved : goal.loop-low-preserved
loop-low-preserved c =
    rw c.tick.ensures (keyed_down _ _ _ _ _ _ _ _ c.loop-low.invariant (rises_numbers c.args.table.now c.requires) c.loop-low-test.true refl (rw (← c.from_of-from.ensures, ← c.from.ensures) c.if-from-address.false))

pub returns-clause-probes : goal.returns-clause-probes
returns-clause-probes c = λ digits h. keyed_probes _ _ _ _ _ _ _ c.loop-low.invariant digits (rw (← pairs_count c.args.table.now) h)

pub returns-clause-few : goal.returns-clause-few
returns-clause-few c = rw (pairs_count c.args.table.now) (keyed_few _ _ _ _ _ _ _ c.loop-low.invariant)
