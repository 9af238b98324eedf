use Rattle.pdb_places.proofs.FirstContributions.{first_contributes, none_contributes}
use Rattle.pdb_places.proofs.place_laws.the_first_contribution_counts.Goals as goal

pub returns : goal.returns
returns c = record { first = first_contributes; none = none_contributes }
