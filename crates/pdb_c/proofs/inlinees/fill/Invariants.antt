use Rattle.std.proofs.Common.{◌≡◌, ◌+◌, ◌<◌, ◌^◌, length, map}
use Rattle.pdb.specs.ModuleViews.{inlinees_left}
use Rattle.pdb_c.specs.InlineeRows.{inlinee_row}
use Rattle.pdb_c.specs.Rooms.{put}
use Rattle.pdb_c.proofs.inlinees.fill.Given as goal

-- what was put, and what is left to put, are all
abbrev pub invariant-loop-inlinee : goal.invariant-loop-inlinee
invariant-loop-inlinee l = record {
  told : put l.n (map (inlinee_row l.places) (inlinees_left l.inlinees).items) (map (λ r. r) l.records) ≡ put 0 (map (inlinee_row l.places) (inlinees_left l.fn.inlinees).items) (map (λ r. r) l.fn.records);
  counted : l.n + length (inlinees_left l.inlinees).items ≡ length (inlinees_left l.fn.inlinees).items;
  fault : (inlinees_left l.inlinees).fault ≡ (inlinees_left l.fn.inlinees).fault;
  few : length (inlinees_left l.inlinees).items < length (inlinees_left l.fn.inlinees).items → length (inlinees_left l.fn.inlinees).items < 2 ^ 64;
  room : length l.records ≡ length l.fn.records;
}

abbrev pub decreases-loop-inlinee : goal.decreases-loop-inlinee
decreases-loop-inlinee l = length (inlinees_left l.inlinees).items
