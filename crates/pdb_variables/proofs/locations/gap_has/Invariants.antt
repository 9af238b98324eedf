use Rattle.std.proofs.Common.{◌≡◌, length}
use Rattle.std.specs.List.{list_any}
use Rattle.pdb_records.specs.RangePieces.{is_in}
use Rattle.pdb_records.specs.RecordViews.{gaps_left}
use Rattle.pdb_variables.proofs.locations.gap_has.Given as goal

-- what is looked for is among those that are left
abbrev pub invariant-loop-gap : goal.invariant-loop-gap
invariant-loop-gap l = list_any (is_in l.fn.at) (gaps_left l.fn.gaps).items ≡ list_any (is_in l.fn.at) (gaps_left l.gaps).items

abbrev pub decreases-loop-gap : goal.decreases-loop-gap
decreases-loop-gap l = length (gaps_left l.gaps).items
