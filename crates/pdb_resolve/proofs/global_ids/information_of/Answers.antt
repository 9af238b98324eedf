use Rattle.pdb_resolve.proofs.Asking.{told}
use Rattle.pdb_resolve.proofs.global_ids.information_of.Goals as goal

pub returns-clause-is : goal.returns-clause-is
returns-clause-is g c = λ t. c.if_read.ensures.is _ (told _ _ _ _ (c.debug_information.ensures.answer t))
