use Rattle.pdb_modules.proofs.ExportLemmas.{first_is, none_is}
use Rattle.pdb_modules.proofs.laws.the_first_export_is_found.Goals as goal

pub returns-clause-first : goal.returns-clause-first
returns-clause-first c local xs k d there is before = first_is local xs k d there is before

pub returns-clause-missing : goal.returns-clause-missing
returns-clause-missing c local xs d other = none_is local xs d other
