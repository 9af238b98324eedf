use Rattle.std.proofs.Common.{◌+◌, ◌*◌}
use Rattle.pdb_types.proofs.shapes.+sides.Given as goal

abbrev pub decreases-is_right : goal.decreases-is_right
decreases-is_right l = 2 * l.depth

abbrev pub decreases-is_right_by : goal.decreases-is_right_by
decreases-is_right_by l = 2 * l.depth + 1
