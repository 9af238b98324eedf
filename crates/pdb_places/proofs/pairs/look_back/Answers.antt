use Rattle.std.proofs.Common.{arith}
use Rattle.pdb_places.proofs.TablePairs.{pairs_count}
use Rattle.pdb_places.proofs.pairs.look_back.Goals as goal

pub returns-then-from-address-clause-few : goal.returns-then-from-address-clause-few
returns-then-from-address-clause-few c = omega (arith, pairs_count c.args.table.now, c.tick.ensures, c.loop-left.invariant.counted, c.loop-left-test.true)

pub returns-clause-few : goal.returns-clause-few
returns-clause-few c = omega (arith, pairs_count c.args.table.now, c.loop-left.invariant.counted)
