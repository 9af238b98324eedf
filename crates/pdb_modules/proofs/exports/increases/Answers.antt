use Rattle.std.proofs.Common.{◌-◌, arith}
use Rattle.std.proofs.lemmas.List.{get_or_default}
use Rattle.pdb_modules.proofs.ExportLemmas.{increases_on}
use Rattle.pdb_modules.proofs.exports.increases.Goals as goal

pub loop-i-preserved : goal.loop-i-preserved
loop-i-preserved c =
    increases_on c.args.exports.now c.loop-i.i c.loop-i.auto.i c.loop-i.invariant (λ d.
    rw (get_or_default c.args.exports.now (c.loop-i.i - 1) d (0, 0) (omega (arith, c.loop-i-test.true)), get_or_default c.args.exports.now c.loop-i.i d (0, 0) c.loop-i-test.true) c.if-exports-i.false)
