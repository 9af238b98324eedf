use Rattle.std.proofs.Common.{ap, arith, length}
use Rattle.pdb_modules.proofs.ProgramAnswers.{program_fails, program_gives}
use Rattle.pdb_modules.proofs.ProgramPieces.{none_listed}
use Rattle.pdb_modules.proofs.line_program.LineProgram.parse.Goals as goal

pub returns-in-Err-clause-program : goal.returns-in-Err-clause-program
returns-in-Err-clause-program c = program_fails c.args.lines_data.now _ c.in-Err.ensures.parts

pub returns-in-Ok-clause-program : goal.returns-in-Ok-clause-program
returns-in-Ok-clause-program c =
    let is = c.as_slice.ensures.value in
    program_gives c.args.lines_data.now _ c.resolve.result (rw is c.in-Ok.ensures.parts) c.resolve.ensures.program c.resolve.ensures.refused

pub returns-in-Ok-clause-lean : goal.returns-in-Ok-clause-lean
returns-in-Ok-clause-lean c =
    λ none. (
    let listed = none_listed c.args.lines_data.now c.in-Ok.parts.lines.items c.in-Ok.parts.checksums.now c.in-Ok.ensures.parts none in
    c.resolve.ensures.lean (omega (arith, listed, ap length c.as_slice.ensures.value))
    )
