use Rattle.std.proofs.Common.{◌≡◌, ◌+◌, ◌<◌, ◌^◌, length, map}
use Rattle.pdb.specs.LineViews.{lines_left}
use Rattle.pdb_c.specs.LineRows.{line_row}
use Rattle.pdb_c.specs.Rooms.{put}
use Rattle.pdb_c.proofs.lines.fill.Given as goal

-- what was put, and what is left to put, are all
abbrev pub invariant-loop-line : goal.invariant-loop-line
invariant-loop-line l = record {
  told : put l.n (map (line_row l.program.checksums) (lines_left l.lines).items) (map (λ r. r) l.records) ≡ put 0 (map (line_row l.program.checksums) (lines_left l.fn.lines).items) (map (λ r. r) l.fn.records);
  counted : l.n + length (lines_left l.lines).items ≡ length (lines_left l.fn.lines).items;
  fault : (lines_left l.lines).fault ≡ (lines_left l.fn.lines).fault;
  few : length (lines_left l.lines).items < length (lines_left l.fn.lines).items → length (lines_left l.fn.lines).items < 2 ^ 64;
  room : length l.records ≡ length l.fn.records;
}

abbrev pub decreases-loop-line : goal.decreases-loop-line
decreases-loop-line l = length (lines_left l.lines).items
