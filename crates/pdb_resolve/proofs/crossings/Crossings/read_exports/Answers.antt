use Rattle.pdb_resolve.proofs.CrossingsGoOn.{crossings_on}
use Rattle.pdb_resolve.proofs.crossings.Crossings.read_exports.Goals as goal

pub returns-clause-kept : goal.returns-clause-kept
returns-clause-kept g c =
    let on = crossings_on c.args.pdb.now c.read_exports.new.pdb c.args.self.now c.read_exports.ensures.continues c.requires.kept in
    record { numbers = on.numbers; imports = on.imports; exports = c.read_exports.ensures.kept }
