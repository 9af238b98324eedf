use Rattle.std.proofs.Common.{map, take}
use Rattle.pdb_variables.specs.VariableViews.{shown_variable}
use Rattle.tool_addresses.specs.OwnedLines.{Keeps}
use Rattle.tool_addresses.proofs.variable_texts.owned_lines.Given as goal

-- the lines of the variables so far are kept
abbrev pub invariant-loop-variable : goal.invariant-loop-variable
invariant-loop-variable l = Keeps l.machine (map shown_variable (take l.variable-index l.variables)) l.calls l.lines
