use Rattle.pdb_modules.proofs.OwnFaults.{told_own}
use Rattle.pdb_modules.proofs.line_program.LineProgram.lines.Goals as goal

pub new-requires-clause-own : goal.new-requires-clause-own
new-requires-clause-own c = told_own _ _ c.self.invariant.told
