use Rattle.std.proofs.Common.{suc, take}
use Rattle.pdb_modules.proofs.InlinedSums.{offset_sum, line_sum}
use Rattle.pdb_modules.proofs.laws.inlined_records_stand_at_sums.Goals as goal

pub returns : goal.returns
returns c = record {
  offset = λ section s xs i. offset_sum s (take (suc i) xs);
  line = λ section s xs i h. line_sum s (take (suc i) xs) h;
}
