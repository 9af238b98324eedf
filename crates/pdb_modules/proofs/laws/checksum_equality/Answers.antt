use Rattle.pdb_modules.proofs.LookupLaws.{equal_sums}
use Rattle.pdb_modules.proofs.laws.checksum_equality.Goals as goal

pub returns : goal.returns
returns c a b = equal_sums a b
