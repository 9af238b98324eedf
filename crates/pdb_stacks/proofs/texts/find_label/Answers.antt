use Rattle.std.proofs.Common.{◌∙◌, sym}
use Rattle.pdb_stacks.specs.LineTexts.{behind_either, find_label}
use Rattle.pdb_stacks.proofs.Finds.{found, past}
use Rattle.pdb_stacks.proofs.texts.find_label.Goals as goal

pub returns-in-Some : goal.returns-in-Some
unfolding find_label
returns-in-Some c = sym (c.loop-at.invariant ∙ found (λ k. behind_either c.args.line.now k c.args.label.now c.args.other.now) c.args.line.now c.loop-at.at c.in-Some.end c.loop-at-test.true (sym c.in-Some.ensures))

pub loop-at-preserved : goal.loop-at-preserved
loop-at-preserved c = c.loop-at.invariant ∙ past (λ k. behind_either c.args.line.now k c.args.label.now c.args.other.now) c.args.line.now c.loop-at.at c.loop-at-test.true (sym c.in_default.ensures)
