use Rattle.std.proofs.Common.{append_assoc, ◌+◌}
use Rattle.pdb_sample.specs.Sample.{numbers_from, number_bytes}
use Rattle.pdb_sample.proofs.SampleFacts.{numbers_more}
use Rattle.pdb_sample.proofs.sample.put_numbers.Goals as goal

pub loop-k-preserved : goal.loop-k-preserved
loop-k-preserved c = rw (c.in_ok-put_number.ensures, c.loop-k.invariant, numbers_more c.args.first c.loop-k.k) (append_assoc c.args.out.now.items (numbers_from c.args.first c.loop-k.k) (number_bytes (c.args.first + c.loop-k.k)))
