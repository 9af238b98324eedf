use Rattle.std.proofs.Common.{◌≤◌, ◌∙◌, sym, arith}
use Rattle.pdb_stacks.specs.SymbolMarks.{nearest}
use Rattle.pdb_stacks.proofs.MarkSteps.{stays}
use Rattle.pdb_stacks.proofs.marks.Mark.next.Goals as goal

pub returns-then-from-self-clause-is : goal.returns-then-from-self-clause-is
returns-then-from-self-clause-is c =
    let known = c.requires in
    let within : c.args.from ≤ nearest c.args.line.now c.args.self.from = omega (arith, known) in
    sym (stays c.args.line.now c.args.self.from c.args.from c.if-self-from.true within ∙ known)
