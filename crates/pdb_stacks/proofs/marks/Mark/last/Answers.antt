use Rattle.pdb_stacks.proofs.MarkSteps.{at_end}
use Rattle.pdb_stacks.proofs.marks.Mark.last.Goals as goal

pub returns : goal.returns
returns c = at_end c.args.line.now
