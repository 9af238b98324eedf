use Rattle.std.proofs.Common.{◌+◌, ◌*◌}
use Rattle.pdb_types.proofs.shapes.+shapes.Given as goal

abbrev pub decreases-shape_of : goal.decreases-shape_of
decreases-shape_of l = 2 * l.depth

abbrev pub decreases-shape_by : goal.decreases-shape_by
decreases-shape_by l = 2 * l.depth + 1
