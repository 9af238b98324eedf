use Rattle.std.proofs.Common.{refl, sym, arith}
use Rattle.pdb_modules.proofs.ExportLemmas.{ranked, found_middle, found_none, halves_up, halves_down}
use Rattle.pdb_modules.proofs.exports.halve.Goals as goal

pub returns-in-Equal-clause-found : goal.returns-in-Equal-clause-found
returns-in-Equal-clause-found c = sym (found_middle c.args.local c.args.exports.now c.loop-low.low c.loop-low.high _ _ _ (0, 0) c.loop-low.invariant c.requires c.loop-low-test.true refl (ranked _ _ _ c.in-Equal.ensures))

pub loop-low-preserved-in-Less : goal.loop-low-preserved-in-Less
loop-low-preserved-in-Less c =
    rw c.tick.ensures (halves_up c.args.local c.args.exports.now c.loop-low.low c.loop-low.high _ _ _ (0, 0) c.loop-low.invariant c.requires c.loop-low-test.true refl (ranked _ _ _ c.in-Less.ensures))

pub loop-low-preserved : goal.loop-low-preserved
loop-low-preserved c =
    rw c.tick.ensures (halves_down c.args.local c.args.exports.now c.loop-low.low c.loop-low.high _ _ _ (0, 0) c.loop-low.invariant c.requires c.loop-low-test.true refl (ranked _ _ _ c.in-Greater.ensures))

pub returns-clause-found : goal.returns-clause-found
returns-clause-found c = sym (found_none c.args.local c.args.exports.now c.loop-low.low c.loop-low.high _ _ c.loop-low.invariant (omega (arith, c.loop-low-test.false)))
