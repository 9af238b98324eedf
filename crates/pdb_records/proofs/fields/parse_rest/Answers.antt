use Rattle.pdb_symbols.proofs.Parts.{rest_taken}
use Rattle.pdb_records.proofs.fields.parse_rest.Goals as goal

pub returns : goal.returns
returns c = rest_taken (λ s. s.now) _ _ c.len-count.result _ c.len-count.ensures c.take.ensures.reads c.take.ensures.size
