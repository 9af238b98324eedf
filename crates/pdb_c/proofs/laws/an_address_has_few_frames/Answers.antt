use Rattle.std.proofs.Common.{refl}
use Rattle.pdb_c.proofs.FewFrames.{few_in_module}
use Rattle.pdb_c.proofs.laws.an_address_has_few_frames.Goals as goal

pub returns : goal.returns
returns c = record { none = λ file q. refl; some = few_in_module }
