use Rattle.std.proofs.Common.{refl, arith}
use Rattle.pdb_places.proofs.Keyed.{keyed_up, keyed_down, keyed_few}
use Rattle.pdb_places.proofs.PublicCount.{key_here, keys_rise, counted_all}
use Rattle.pdb_places.proofs.public_table.count_upto.Goals as goal

pub loop-low-preserved-then-key-last : goal.loop-low-preserved-then-key-last
loop-low-preserved-then-key-last c =
    rw c.tick.ensures (keyed_up _ _ _ _ _ _ _ _ c.loop-low.invariant (keys_rise c.args.rows.now c.requires) c.loop-low-test.true refl (rw (key_here c.args.rows.now _ c.index-rows-middle.result c.key-key.result (omega (arith, c.loop-low.invariant.inside, c.loop-low-test.true)) c.index-rows-middle.is c.key-key.ensures) c.if-key-last.true))

pub loop-low-preserved : goal.loop-low-preserved
loop-low-preserved c =
    rw c.tick.ensures (keyed_down _ _ _ _ _ _ _ _ c.loop-low.invariant (keys_rise c.args.rows.now c.requires) c.loop-low-test.true refl (rw (key_here c.args.rows.now _ c.index-rows-middle.result c.key-key.result (omega (arith, c.loop-low.invariant.inside, c.loop-low-test.true)) c.index-rows-middle.is c.key-key.ensures) c.if-key-last.false))

pub returns-clause-count : goal.returns-clause-count
returns-clause-count c = counted_all _ _ _ _ _ _ c.loop-low.invariant c.loop-low-test.false

pub returns-clause-few : goal.returns-clause-few
returns-clause-few c = keyed_few _ _ _ _ _ _ _ c.loop-low.invariant
