use Rattle.std.proofs.Common.{◌≡◌, ◌++◌, length}
use Rattle.pdb_records.specs.RecordViews.{numbers_left}
use Rattle.std.specs.Fmt.{decimal}
use Rattle.tool_fields.specs.RecordValues.{texts_behind}
use Rattle.tool_records.proofs.record_lists.put_more_counts.Given as goal

-- what was put, and the texts of the items that are left, are the texts of all
abbrev pub invariant-loop-number : goal.invariant-loop-number
invariant-loop-number l = l.out.items ++ texts_behind decimal (numbers_left l.counts).items ≡ l.fn.out.items ++ texts_behind decimal (numbers_left l.fn.counts).items

abbrev pub decreases-loop-number : goal.decreases-loop-number
decreases-loop-number l = length (numbers_left l.counts).items
