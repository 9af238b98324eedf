use Rattle.std.proofs.Common.{◌-◌, arith, refl}
use Rattle.pdb_index.specs.IndexLayout.{start_of}
use Rattle.pdb_index.proofs.Halving.{lower, upper, within}
use Rattle.pdb_index.proofs.search.last_upto.Goals as goal

pub loop-low-preserved-then-word-key : goal.loop-low-preserved-then-word-key
loop-low-preserved-then-word-key c =
    rw c.tick.ensures (upper (start_of c.args.bytes.now c.args.table) c.args.first c.args.behind c.args.key c.loop-low.low c.loop-low.high _ _ _
    c.loop-low.invariant c.loop-low-test.true refl (omega (arith, c.word.ensures, c.if-word-key.true)))

pub loop-low-preserved : goal.loop-low-preserved
loop-low-preserved c =
    rw c.tick.ensures (lower (start_of c.args.bytes.now c.args.table) c.args.first c.args.behind c.args.key c.loop-low.low c.loop-low.high _ _ _
    c.loop-low.invariant c.loop-low-test.true refl (omega (arith, c.word.ensures, c.if-word-key.false)))

pub returns-then-low-first-clause-few : goal.returns-then-low-first-clause-few
returns-then-low-first-clause-few c =
    within (c.args.behind - c.args.first) (c.loop-low.high - c.loop-low.low) _ _ 32 c.loop-low.invariant.counted (omega (arith, c.ranges.behind.fits))

pub returns-clause-few : goal.returns-clause-few
returns-clause-few c =
    within (c.args.behind - c.args.first) (c.loop-low.high - c.loop-low.low) _ _ 32 c.loop-low.invariant.counted (omega (arith, c.ranges.behind.fits))
