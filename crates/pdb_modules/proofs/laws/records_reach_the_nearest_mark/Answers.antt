use Rattle.pdb_modules.proofs.Nearest.{are_records, only_records}
use Rattle.pdb_modules.proofs.laws.records_reach_the_nearest_mark.Goals as goal

pub returns : goal.returns
returns c = record { are = are_records; only = only_records }
