use Rattle.std.proofs.Common.{◌∙◌, sym}
use Rattle.pdb_stacks.proofs.RunSteps.{run_ends, run_goes_on, run_stops}
use Rattle.pdb_stacks.proofs.bytes.run_end.Goals as goal

pub returns-then-not-is_of-clause-is : goal.returns-then-not-is_of-clause-is
returns-then-not-is_of-clause-is c = sym (c.loop-at.invariant ∙ run_stops c.args.kind c.args.line.now c.loop-at.at c.loop-at-test.true (sym c.if-not-is_of.ensures))

pub loop-at-preserved : goal.loop-at-preserved
loop-at-preserved c = c.loop-at.invariant ∙ run_goes_on c.args.kind c.args.line.now c.loop-at.at c.loop-at-test.true (sym c.if-not-is_of.ensures)

pub returns-clause-is : goal.returns-clause-is
returns-clause-is c = c.max.ensures ∙ sym (run_ends c.args.kind c.args.line.now c.args.from c.loop-at.at c.loop-at.invariant c.loop-at-test.false c.loop-at.auto.at-end)
