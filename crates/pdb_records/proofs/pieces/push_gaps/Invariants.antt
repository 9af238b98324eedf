use Rattle.std.proofs.Common.{◌≡◌, ◌++◌, length}
use Rattle.pdb_records.specs.RecordViews.{gaps_left}
use Rattle.pdb_records.proofs.pieces.push_gaps.Given as goal

-- the gaps so far, and those that are left, are all
abbrev pub invariant-loop-gap : goal.invariant-loop-gap
invariant-loop-gap l = l.sorted.items ++ (gaps_left l.gaps).items ≡ l.fn.sorted.items ++ (gaps_left l.fn.gaps).items

abbrev pub decreases-loop-gap : goal.decreases-loop-gap
decreases-loop-gap l = length (gaps_left l.gaps).items
