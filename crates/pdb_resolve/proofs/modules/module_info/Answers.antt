use Rattle.std.proofs.Common.{sym, ◌∙◌}
use Rattle.pdb_resolve.proofs.Asking.{found_read, told}
use Rattle.pdb_resolve.proofs.modules.module_info.Goals as goal

pub returns-in-Some-clause-is : goal.returns-in-Some-clause-is
returns-in-Some-clause-is g c = λ t. found_read _ c.in-Some.info (sym c.in-Some.is ∙ c.in_ok-info.ensures.is _ (told _ _ _ _ (c.module_info.ensures.answer t)))
