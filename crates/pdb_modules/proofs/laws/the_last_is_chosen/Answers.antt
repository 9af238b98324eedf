use Rattle.pdb_modules.proofs.Chosen.{is_last, last_found, all_behind}
use Rattle.pdb_modules.proofs.laws.the_last_is_chosen.Goals as goal

pub returns : goal.returns
returns c = record { is = is_last; only = last_found; none = all_behind }
