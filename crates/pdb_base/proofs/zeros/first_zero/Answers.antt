use Rattle.std.proofs.Common.{arith, refl}
use Rattle.pdb_base.proofs.ZeroRuns.{found_in, absent_from}
use Rattle.pdb_base.proofs.zeros.first_zero.Goals as goal

pub returns-then-run-lt16-clause-place : goal.returns-then-run-lt16-clause-place
returns-then-run-lt16-clause-place c =
    found_in c.args.bytes.now c.loop-at.at c.loop-at.at 16 _ _ c.loop-at.invariant.none (omega arith) (omega arith) c.run_of_16-run.ensures (omega arith) refl

pub returns-then-run-lt16-2-clause-place : goal.returns-then-run-lt16-2-clause-place
returns-then-run-lt16-2-clause-place c =
    found_in c.args.bytes.now c.loop-at.at _ 16 _ _ c.loop-at.invariant.none (omega arith) (omega arith) c.run_of_16-run-2.ensures (omega arith) refl

pub returns-else-run-lt16-2-clause-place : goal.returns-else-run-lt16-2-clause-place
returns-else-run-lt16-2-clause-place c =
    absent_from c.args.bytes.now c.loop-at.at _ 16 _ c.loop-at.invariant.none (omega arith) (omega arith) c.run_of_16-run-2.ensures (omega arith)
