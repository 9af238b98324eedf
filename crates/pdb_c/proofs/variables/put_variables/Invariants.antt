use Rattle.std.proofs.Common.{◌≡◌, ◌+◌, length, drop, map}
use Rattle.pdb_variables.specs.VariableViews.{shown_variable}
use Rattle.pdb_c.specs.Rooms.{put}
use Rattle.pdb_c.specs.VariableRows.{variable_names, variable_rows}
use Rattle.pdb_c.proofs.variables.put_variables.Given as goal

-- what was put, and what is left to put, are all
abbrev pub invariant-loop-variable : goal.invariant-loop-variable
invariant-loop-variable l = record {
  rows : put l.count (variable_rows l.address l.size (map shown_variable (drop l.variable-index l.found))) l.rows ≡ put l.fn.count (variable_rows l.address l.fn.size (map shown_variable l.found)) l.fn.rows;
  count : l.count + length (variable_rows l.address l.size (map shown_variable (drop l.variable-index l.found))) ≡ l.fn.count + length (variable_rows l.address l.fn.size (map shown_variable l.found));
  names : put l.size (variable_names (map shown_variable (drop l.variable-index l.found))) l.names ≡ put l.fn.size (variable_names (map shown_variable l.found)) l.fn.names;
  size : l.size + length (variable_names (map shown_variable (drop l.variable-index l.found))) ≡ l.fn.size + length (variable_names (map shown_variable l.found));
}
