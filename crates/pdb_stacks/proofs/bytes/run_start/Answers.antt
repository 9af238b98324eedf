use Rattle.std.proofs.Common.{◌∙◌, sym, arith}
use Rattle.pdb_stacks.proofs.RunSteps.{back_goes_on, back_is_over, back_stops}
use Rattle.pdb_stacks.proofs.bytes.run_start.Goals as goal

pub returns-then-not-is_of-clause-is : goal.returns-then-not-is_of-clause-is
returns-then-not-is_of-clause-is c = sym (c.loop-start.invariant.same ∙ back_stops c.args.kind c.args.line.now c.loop-start.start c.loop-start-test.true (sym c.if-not-is_of.ensures))

pub loop-start-preserved : goal.loop-start-preserved
loop-start-preserved c = record {
  same = c.loop-start.invariant.same ∙ back_goes_on c.args.kind c.args.line.now c.loop-start.start c.loop-start-test.true (sym c.if-not-is_of.ensures);
  within = omega (arith, c.loop-start.invariant.within);
}

pub returns-clause-is : goal.returns-clause-is
returns-clause-is c = sym (c.loop-start.invariant.same ∙ back_is_over c.args.kind c.args.line.now c.loop-start.start c.loop-start-test.false)
