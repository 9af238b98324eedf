use Rattle.std.proofs.Common.{refl, arith}
use Rattle.pdb_places.proofs.TablePairs.{start_in, rises_numbers, numbers_rise, falls_not, never_from}
use Rattle.pdb_places.proofs.pairs.rises.Goals as goal

pub loop-pair-preserved : goal.loop-pair-preserved
loop-pair-preserved c =
    falls_not (start_in c.args.table.now) c.loop-pair.pair c.loop-pair.auto.pair c.loop-pair.invariant (rw (← c.from_of-before.ensures, ← c.from_of-from.ensures) c.if-from-before.false)

pub returns-then-from-before : goal.returns-then-from-before
returns-then-from-before c = (
  λ h. absurd cc,
  λ h. absurd (never_from (start_in c.args.table.now) _ c.loop-pair.pair (rises_numbers c.args.table.now h) c.loop-pair-test.true (rw (← c.from_of-before.ensures, ← c.from_of-from.ensures) c.if-from-before.true)),
)

pub returns : goal.returns
returns c = (λ h. numbers_rise c.args.table.now (λ j k l m. c.loop-pair.invariant j k l (omega (arith, m, c.loop-pair-test.false))), λ h. refl)
