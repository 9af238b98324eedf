use Rattle.std.proofs.Common.{◌≡◌, ◌++◌, length}
use Rattle.pdb_records.specs.RecordViews.{gaps_left}
use Rattle.tool_fields.specs.RecordValues.{gap_text, texts_behind}
use Rattle.tool_records.proofs.record_lists.put_more_gaps.Given as goal

-- what was put, and the texts of the items that are left, are the texts of all
abbrev pub invariant-loop-gap : goal.invariant-loop-gap
invariant-loop-gap l = l.out.items ++ texts_behind gap_text (gaps_left l.gaps).items ≡ l.fn.out.items ++ texts_behind gap_text (gaps_left l.fn.gaps).items

abbrev pub decreases-loop-gap : goal.decreases-loop-gap
decreases-loop-gap l = length (gaps_left l.gaps).items
