use Rattle.std.proofs.Common.{◌≡◌, length}
use Rattle.std.specs.Prelude.{nat_eq}
use Rattle.std.specs.Cmp.Lexicographic.{pointwise}
use Rattle.pdb_records.specs.RecordViews.{strings_left}
use Rattle.pdb_records.proofs.strings.same_names.Given as goal

-- the names that are left are the same where all are
abbrev pub invariant-loop-name : goal.invariant-loop-name
invariant-loop-name l = pointwise (pointwise nat_eq) (strings_left l.left).items (strings_left l.right).items ≡ pointwise (pointwise nat_eq) (strings_left l.initial.left).items (strings_left l.initial.right).items

abbrev pub decreases-loop-name : goal.decreases-loop-name
decreases-loop-name l = length (strings_left l.left).items
