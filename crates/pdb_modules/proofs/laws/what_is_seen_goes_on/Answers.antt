use Rattle.pdb_modules.proofs.InlinedSums.{seen_more}
use Rattle.pdb_modules.proofs.laws.what_is_seen_goes_on.Goals as goal

pub returns : goal.returns
returns c s xs ys = seen_more s xs ys
