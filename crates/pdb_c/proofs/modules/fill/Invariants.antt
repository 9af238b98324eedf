use Rattle.std.proofs.Common.{◌≡◌, ◌+◌, ◌<◌, ◌^◌, length, map}
use Rattle.pdb.specs.DbiViews.{modules_left}
use Rattle.pdb_c.specs.Numbers.{entry_of}
use Rattle.pdb_c.specs.Rooms.{put}
use Rattle.pdb_c.proofs.modules.fill.Given as goal

-- what was put, and what is left to put, are all
abbrev pub invariant-loop-module : goal.invariant-loop-module
invariant-loop-module l = record {
  told : put l.n (map (λ m. m) (modules_left l.modules).items) (map entry_of l.records) ≡ put 0 (map (λ m. m) (modules_left l.fn.modules).items) (map entry_of l.fn.records);
  counted : l.n + length (modules_left l.modules).items ≡ length (modules_left l.fn.modules).items;
  fault : (modules_left l.modules).fault ≡ (modules_left l.fn.modules).fault;
  few : length (modules_left l.modules).items < length (modules_left l.fn.modules).items → length (modules_left l.fn.modules).items < 2 ^ 64;
  room : length l.records ≡ length l.fn.records;
}

abbrev pub decreases-loop-module : goal.decreases-loop-module
decreases-loop-module l = length (modules_left l.modules).items
