use Rattle.pdb_modules.proofs.ExportLemmas.{IncreasesTo}
use Rattle.pdb_modules.proofs.exports.increases.Given as goal

abbrev pub invariant-loop-i : goal.invariant-loop-i
invariant-loop-i l = IncreasesTo l.exports l.i
