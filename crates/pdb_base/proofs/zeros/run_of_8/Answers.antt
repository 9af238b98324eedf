use Rattle.std.proofs.Common.{arith}
use Rattle.pdb_base.proofs.ZeroRuns.{run_of}
use Rattle.pdb_base.proofs.zeros.run_of_8.Goals as goal

pub returns : goal.returns
returns c = run_of c.args.bytes.now c.args.at 8 _ c.requires (omega arith) c.first_set.ensures
