use Rattle.std.proofs.Common.{◌≡◌, ◌+◌, ◌<◌, ◌^◌, length, map}
use Rattle.pdb.specs.ModuleViews.{exports_left}
use Rattle.pdb_c.specs.CrossRows.{export_row}
use Rattle.pdb_c.specs.Rooms.{put}
use Rattle.pdb_c.proofs.exports.fill.Given as goal

-- what was put, and what is left to put, are all
abbrev pub invariant-loop-export : goal.invariant-loop-export
invariant-loop-export l = record {
  told : put l.n (map export_row (exports_left l.exports).items) (map (λ r. r) l.records) ≡ put 0 (map export_row (exports_left l.fn.exports).items) (map (λ r. r) l.fn.records);
  counted : l.n + length (exports_left l.exports).items ≡ length (exports_left l.fn.exports).items;
  fault : (exports_left l.exports).fault ≡ (exports_left l.fn.exports).fault;
  few : length (exports_left l.exports).items < length (exports_left l.fn.exports).items → length (exports_left l.fn.exports).items < 2 ^ 64;
  room : length l.records ≡ length l.fn.records;
}

abbrev pub decreases-loop-export : goal.decreases-loop-export
decreases-loop-export l = length (exports_left l.exports).items
