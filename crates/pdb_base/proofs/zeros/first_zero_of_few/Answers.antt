use Rattle.std.proofs.Common.{arith, refl}
use Rattle.pdb_base.proofs.ZeroRuns.{found_in, absent_from, passed}
use Rattle.pdb_base.proofs.zeros.first_zero_of_few.Goals as goal

pub returns-then-run-lt8-clause-place : goal.returns-then-run-lt8-clause-place
returns-then-run-lt8-clause-place c =
    found_in c.args.bytes.now 0 0 8 _ _ (λ k low high. absurd (omega arith)) (omega arith) (omega arith) c.run_of_8-run.ensures (omega arith) (omega arith)

pub returns-then-run-lt8-2-clause-place : goal.returns-then-run-lt8-2-clause-place
returns-then-run-lt8-2-clause-place c =
    found_in c.args.bytes.now 8 _ 8 _ _ (passed c.args.bytes.now 0 8 _ (λ k low high. absurd (omega arith)) c.run_of_8-run.ensures (omega arith)) (omega arith) (omega arith) c.run_of_8-run-2.ensures (omega arith) refl

pub returns-else-run-lt8-2-clause-place : goal.returns-else-run-lt8-2-clause-place
returns-else-run-lt8-2-clause-place c =
    absent_from c.args.bytes.now 8 _ 8 _ (passed c.args.bytes.now 0 8 _ (λ k low high. absurd (omega arith)) c.run_of_8-run.ensures (omega arith)) (omega arith) (omega arith) c.run_of_8-run-2.ensures (omega arith)
