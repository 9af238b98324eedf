use Rattle.pdb_dbi.proofs.Lists.{module_is, is_module}
use Rattle.pdb_dbi.proofs.laws.modules_stand_at_their_places.Goals as goal

pub returns : goal.returns
returns c b p m = (module_is b p m, is_module b p m)
