use Rattle.std.proofs.Common.{length}
use Rattle.pdb_places.proofs.painted.+paint_on.Given as goal

abbrev pub decreases-paint_on : goal.decreases-paint_on
decreases-paint_on l = length l.spans.now
