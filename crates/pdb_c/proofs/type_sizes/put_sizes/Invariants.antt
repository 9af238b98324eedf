use Rattle.std.proofs.Common.{◌≡◌, drop, map}
use Rattle.pdb_c.specs.TypeRows.{type_size_row}
use Rattle.pdb_c.specs.Rooms.{over, put}
use Rattle.pdb_c.proofs.type_sizes.put_sizes.Given as goal

-- what was put, and what is left to put, are all
abbrev pub invariant-loop-place : goal.invariant-loop-place
invariant-loop-place l = put l.place (map (type_size_row l.types.items) (drop l.place l.indices)) l.rows ≡ over (map (type_size_row l.types.items) l.indices) l.fn.rows
