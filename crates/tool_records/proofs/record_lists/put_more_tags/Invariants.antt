use Rattle.std.proofs.Common.{◌≡◌, ◌++◌, length}
use Rattle.pdb_records.specs.RecordViews.{tags_left}
use Rattle.tool_fields.specs.RecordValues.{tag_text, texts_behind}
use Rattle.tool_records.proofs.record_lists.put_more_tags.Given as goal

-- what was put, and the texts of the items that are left, are the texts of all
abbrev pub invariant-loop-tag : goal.invariant-loop-tag
invariant-loop-tag l = l.out.items ++ texts_behind tag_text (tags_left l.tags).items ≡ l.fn.out.items ++ texts_behind tag_text (tags_left l.fn.tags).items

abbrev pub decreases-loop-tag : goal.decreases-loop-tag
decreases-loop-tag l = length (tags_left l.tags).items
