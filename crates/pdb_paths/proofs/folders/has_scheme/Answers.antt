use Rattle.std.proofs.Common.{rules}
use Rattle.pdb_paths.proofs.Schemes.{past}
use Rattle.pdb_paths.proofs.folders.has_scheme.Goals as goal

pub loop-index-preserved : goal.loop-index-preserved
loop-index-preserved c = search (rules, past)
