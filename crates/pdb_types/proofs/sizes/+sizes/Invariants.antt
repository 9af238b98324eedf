use Rattle.std.proofs.Common.{◌+◌, ◌*◌}
use Rattle.pdb_types.proofs.sizes.+sizes.Given as goal

abbrev pub decreases-full_size : goal.decreases-full_size
decreases-full_size l = 3 * l.depth + 1

abbrev pub decreases-size_within : goal.decreases-size_within
decreases-size_within l = 3 * l.depth

abbrev pub decreases-size_by : goal.decreases-size_by
decreases-size_by l = 3 * l.depth + 2
