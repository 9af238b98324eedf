use Rattle.std.proofs.Common.{◌≡◌, ◌++◌, length}
use Rattle.pdb_records.specs.RecordViews.{strings_left}
use Rattle.tool_fields.specs.RecordValues.{string_text, texts_behind}
use Rattle.tool_records.proofs.record_lists.put_more_strings.Given as goal

-- what was put, and the texts of the items that are left, are the texts of all
abbrev pub invariant-loop-string : goal.invariant-loop-string
invariant-loop-string l = l.out.items ++ texts_behind string_text (strings_left l.strings).items ≡ l.fn.out.items ++ texts_behind string_text (strings_left l.fn.strings).items

abbrev pub decreases-loop-string : goal.decreases-loop-string
decreases-loop-string l = length (strings_left l.strings).items
