use Rattle.pdb_places.proofs.LastPairs.{is_last, last_found, all_behind}
use Rattle.pdb_places.proofs.place_laws.the_last_pair_is_chosen.Goals as goal

pub returns : goal.returns
returns c = record { is = is_last; only = last_found; none = all_behind }
