use Rattle.pdb_records.proofs.KindLaws.{read_once}
use Rattle.pdb_records.proofs.laws.no_kind_is_read_twice.Goals as goal

pub returns : goal.returns
returns c kind f g h k = read_once kind f g h k
