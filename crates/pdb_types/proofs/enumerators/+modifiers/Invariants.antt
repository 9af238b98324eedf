use Rattle.std.proofs.Common.{◌+◌, ◌*◌}
use Rattle.pdb_types.proofs.enumerators.+modifiers.Given as goal

abbrev pub decreases-unmodified : goal.decreases-unmodified
decreases-unmodified l = 2 * l.depth

abbrev pub decreases-unmodified_by : goal.decreases-unmodified_by
decreases-unmodified_by l = 2 * l.depth + 1
