use Rattle.std.proofs.Common.{◌≡◌, ◌++◌, length, option_copied}
use Rattle.pdb.specs.LineViews.{lines_left}
use Rattle.tool_symbols.specs.LineTexts.{records_text}
use Rattle.tool_symbols.proofs.line_texts.put_records.Given as goal

-- piece: lines_left
-- what was put, and the lines of what is left, are the lines of all
abbrev pub invariant-loop-line : goal.invariant-loop-line
invariant-loop-line l = l.out.items ++ records_text (option_copied l.strings) l.program (lines_left l.lines) ≡ l.fn.out.items ++ records_text (option_copied l.fn.strings) l.fn.program (lines_left l.fn.lines)

-- end

abbrev pub decreases-loop-line : goal.decreases-loop-line
decreases-loop-line l = length (lines_left l.lines).items
