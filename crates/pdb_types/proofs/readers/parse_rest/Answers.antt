use Rattle.pdb_types.proofs.Rests.{rest_taken}
use Rattle.pdb_types.proofs.readers.parse_rest.Goals as goal

pub returns : goal.returns
returns c = rest_taken (λ s. s.now) _ _ c.len-count.result _ c.len-count.ensures c.take.ensures.reads c.take.ensures.size
