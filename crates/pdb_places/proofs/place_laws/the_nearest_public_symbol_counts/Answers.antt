use Rattle.pdb_places.proofs.Nearest.{is_nearest, nearest_found, none_before}
use Rattle.pdb_places.proofs.place_laws.the_nearest_public_symbol_counts.Goals as goal

pub returns : goal.returns
returns c = record { is = is_nearest; only = nearest_found; none = none_before }
