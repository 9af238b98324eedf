use Rattle.pdb_dbi.specs.Contributions.{record_size}
use Rattle.pdb_dbi.proofs.Lists.{long_enough, contribution_is, is_contribution}
use Rattle.pdb_dbi.proofs.laws.contributions_stand_at_their_places.Goals as goal

pub returns : goal.returns
returns g version p b c = (contribution_is (record_size version) b p c (long_enough version), is_contribution (record_size version) b p c (long_enough version))
