use Rattle.std.proofs.Common.{◌≡◌, drop}
use Rattle.pdb_c.specs.Rooms.{over, put}
use Rattle.pdb_c.proofs.rooms.put_rows.Given as goal

-- what was put, and what is left to put, are all
abbrev pub invariant-loop-at : goal.invariant-loop-at
invariant-loop-at g l = put l.at (drop l.at l.rows) l.room ≡ over l.rows l.fn.room
