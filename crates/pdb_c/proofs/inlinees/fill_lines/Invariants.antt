use Rattle.std.proofs.Common.{◌≡◌, ◌+◌, ◌<◌, ◌^◌, length, map}
use Rattle.pdb.specs.InlinedViews.{inlined_left}
use Rattle.pdb_c.specs.LineRows.{inlined_row}
use Rattle.pdb_c.specs.Rooms.{put}
use Rattle.pdb_c.proofs.inlinees.fill_lines.Given as goal

-- what was put, and what is left to put, are all
abbrev pub invariant-loop-line : goal.invariant-loop-line
invariant-loop-line l = record {
  told : put l.n (map inlined_row (inlined_left l.lines).items) (map (λ r. r) l.records) ≡ put 0 (map inlined_row (inlined_left l.fn.lines).items) (map (λ r. r) l.fn.records);
  counted : l.n + length (inlined_left l.lines).items ≡ length (inlined_left l.fn.lines).items;
  fault : (inlined_left l.lines).fault ≡ (inlined_left l.fn.lines).fault;
  few : length (inlined_left l.lines).items < length (inlined_left l.fn.lines).items → length (inlined_left l.fn.lines).items < 2 ^ 64;
  room : length l.records ≡ length l.fn.records;
}

abbrev pub decreases-loop-line : goal.decreases-loop-line
decreases-loop-line l = length (inlined_left l.lines).items
