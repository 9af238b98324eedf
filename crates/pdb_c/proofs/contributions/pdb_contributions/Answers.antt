use Rattle.pdb_c.specs.ContributionRows.{contribution_row}
use Rattle.pdb_c.proofs.DbiHeaders.{contributions_refused}
use Rattle.pdb_c.proofs.contributions.pdb_contributions.Goals as goal

pub returns-in-Err-clause-listed : goal.returns-in-Err-clause-listed
returns-in-Err-clause-listed c = λ small. contributions_refused (λ r. r) contribution_row c.code_of.result c.in-Err.e c.args.records.now c.args.dbi.now _ c.in-Some.ensures.bytes c.in-Err.ensures.0 c.code_of.ensures
