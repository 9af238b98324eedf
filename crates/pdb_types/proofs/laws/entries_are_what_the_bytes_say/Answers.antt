use Rattle.pdb_types.proofs.MemberLaws.{entry_is, is_entry}
use Rattle.pdb_types.proofs.laws.entries_are_what_the_bytes_say.Goals as goal

pub returns : goal.returns
returns c b p x = (entry_is b p x, is_entry b p x)
