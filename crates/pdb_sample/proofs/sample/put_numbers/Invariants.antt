use Rattle.std.proofs.Common.{◌≡◌, ◌++◌}
use Rattle.pdb_sample.specs.Sample.{numbers_from}
use Rattle.pdb_sample.proofs.sample.put_numbers.Given as goal

abbrev pub invariant-loop-k : goal.invariant-loop-k
invariant-loop-k l = l.out.items ≡ l.fn.out.items ++ numbers_from l.first l.k
