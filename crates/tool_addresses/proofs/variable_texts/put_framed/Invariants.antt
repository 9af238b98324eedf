use Rattle.std.proofs.Common.{◌≡◌, ◌++◌, ◌+◌, ◌-◌, map, drop, length}
use Rattle.pdb_resolve.specs.KeptFrames.{shown_frame}
use Rattle.pdb_variables.specs.VariableViews.{shown_variable}
use Rattle.tool_addresses.specs.OwnedLines.{Keeps}
use Rattle.tool_addresses.specs.VariableTexts.{framed}
use Rattle.tool_addresses.proofs.variable_texts.put_framed.Given as goal

-- what was put, and the text of the frames that are left, is the text of all; the lines of those that are left are kept
abbrev pub invariant-loop-frame : goal.invariant-loop-frame
invariant-loop-frame l = record {
  put : l.out.items ++ framed l.fn.machine (map shown_variable l.fn.variables) (map shown_frame (drop l.frame-index l.frames)) ≡ l.fn.out.items ++ framed l.fn.machine (map shown_variable l.fn.variables) (map shown_frame l.frames);
  kept : Keeps l.fn.machine (map shown_variable l.fn.variables) (length l.frames - (l.frame-index + 1)) l.lines;
}
