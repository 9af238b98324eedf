use Rattle.std.proofs.Common.{◌≡◌, ◌+◌, length, drop, map}
use Rattle.pdb_variables.specs.VariableViews.{shown_variable}
use Rattle.pdb_c.specs.Rooms.{put}
use Rattle.pdb_c.specs.VariableRows.{part_row}
use Rattle.pdb_c.proofs.variables.put_part_rows.Given as goal

-- what was put, and what is left to put, are all
abbrev pub invariant-loop-part : goal.invariant-loop-part
invariant-loop-part l = record {
  rows : put l.count (map (part_row l.address l.name_at (shown_variable l.variable) (length l.parts)) (drop l.part-index l.parts)) l.rows ≡ put l.fn.count (map (part_row l.address l.name_at (shown_variable l.variable) (length l.parts)) l.parts) l.fn.rows;
  count : l.count + length (drop l.part-index l.parts) ≡ l.fn.count + length l.parts;
}
