use Rattle.std.proofs.Common.{◌≡◌, ◌+◌, ◌<◌, ◌^◌, length, map}
use Rattle.pdb_records.specs.RecordViews.{gaps_left}
use Rattle.pdb_c.specs.RecordNumbers.{gap_row}
use Rattle.pdb_c.specs.Rooms.{put}
use Rattle.pdb_c.proofs.gaps.fill.Given as goal

-- what was put, and what is left to put, are all
abbrev pub invariant-loop-gap : goal.invariant-loop-gap
invariant-loop-gap l = record {
  told : put l.n (map gap_row (gaps_left l.gaps).items) (map (λ r. r) l.rows) ≡ put 0 (map gap_row (gaps_left l.fn.gaps).items) (map (λ r. r) l.fn.rows);
  counted : l.n + length (gaps_left l.gaps).items ≡ length (gaps_left l.fn.gaps).items;
  fault : (gaps_left l.gaps).fault ≡ (gaps_left l.fn.gaps).fault;
  few : length (gaps_left l.gaps).items < length (gaps_left l.fn.gaps).items → length (gaps_left l.fn.gaps).items < 2 ^ 64;
  room : length l.rows ≡ length l.fn.rows;
}

abbrev pub decreases-loop-gap : goal.decreases-loop-gap
decreases-loop-gap l = length (gaps_left l.gaps).items
