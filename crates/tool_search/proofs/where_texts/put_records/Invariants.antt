use Rattle.std.proofs.Common.{◌≡◌, ◌++◌, length}
use Rattle.pdb.specs.LineViews.{lines_left}
use Rattle.tool_search.specs.WhereTexts.{records_text}
use Rattle.tool_search.proofs.where_texts.put_records.Given as goal

-- what was put, and the lines of what is left, are the lines of all
abbrev pub invariant-loop-line : goal.invariant-loop-line
invariant-loop-line l = record {
  told : l.out.items ++ records_text l.asking l.k l.functions l.program (lines_left l.lines) ≡ l.fn.out.items ++ records_text l.fn.asking l.fn.k l.fn.functions l.fn.program (lines_left l.fn.lines);
  stays : l.functions ≡ l.fn.functions;
}

abbrev pub decreases-loop-line : goal.decreases-loop-line
decreases-loop-line l = length (lines_left l.lines).items
