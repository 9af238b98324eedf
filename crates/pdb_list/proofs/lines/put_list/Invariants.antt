use Rattle.std.proofs.Common.{◌≡◌, ◌++◌, length}
use Rattle.pdb.specs.LineViews.{lines_left}
use Rattle.pdb_list.specs.ModuleTexts.{line_list_text}
use Rattle.pdb_list.proofs.lines.put_list.Given as goal

-- what was put, and the lines of what is left, are the lines of all
abbrev pub invariant-loop-line : goal.invariant-loop-line
invariant-loop-line l = l.out.items ++ line_list_text (lines_left l.lines) ≡ l.fn.out.items ++ line_list_text (lines_left l.fn.lines)

abbrev pub decreases-loop-line : goal.decreases-loop-line
decreases-loop-line l = length (lines_left l.lines).items
