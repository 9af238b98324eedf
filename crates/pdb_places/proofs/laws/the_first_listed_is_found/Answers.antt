use Rattle.pdb_places.proofs.Firsts.{first_found, none_found}
use Rattle.pdb_places.proofs.laws.the_first_listed_is_found.Goals as goal

pub returns-clause-first : goal.returns-clause-first
returns-clause-first c = first_found

pub returns-clause-missing : goal.returns-clause-missing
returns-clause-missing c = none_found
