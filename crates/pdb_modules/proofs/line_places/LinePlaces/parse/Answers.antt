use Rattle.std.proofs.Common.{ap, arith, length}
use Rattle.pdb_modules.proofs.ProgramPieces.{none_listed}
use Rattle.pdb_modules.proofs.line_places.LinePlaces.parse.Goals as goal

pub returns-in-Ok-clause-lean : goal.returns-in-Ok-clause-lean
returns-in-Ok-clause-lean c =
    λ none. (
    let listed = none_listed c.args.lines_data.now c.in-Ok.parts.lines.items c.in-Ok.parts.checksums.now c.in-Ok.ensures.parts none in
    c.of.ensures.lean (omega (arith, listed, ap length c.as_slice.ensures.value))
    )
