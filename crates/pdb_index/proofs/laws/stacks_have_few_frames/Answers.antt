use Rattle.pdb_index.proofs.FewFrames.{few}
use Rattle.pdb_index.proofs.laws.stacks_have_few_frames.Goals as goal

pub returns : goal.returns
returns c = few
