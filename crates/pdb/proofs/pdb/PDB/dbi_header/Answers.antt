use Rattle.std.proofs.Common.{Some}
use Rattle.std.proofs.lemmas.Result.{err_from_is_err_and}
use Rattle.pdb_dbi.proofs.Prefixes.{header_in_fails}
use Rattle.pdb.proofs.pdb.PDB.dbi_header.Goals as goal

pub returns-in_err-header-clause-header : goal.returns-in_err-header-clause-header
returns-in_err-header-clause-header g c = λ told.
    let p = err_from_is_err_and c.from_residual-in_err-header.result c.from_residual-in_err-header.ensures.1 in
    let front = rw c.self.view_is at (c.in_ok-front.ensures.bytes told) in
    rw (p.1, p.2) (header_in_fails _ c.in_err-header.field-0.0 c.args.self.now.file c.in_ok-front.front (Some 1024) front c.in_err-header.ensures.0)
