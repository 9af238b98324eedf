use Rattle.std.proofs.Common.{◌≡◌, ◌+◌, ◌-◌, ◌≤◌, length, map}
use Rattle.pdb.specs.Files.{entries_from}
use Rattle.pdb_c.specs.FileRows.{file_row, file_told}
use Rattle.pdb_c.specs.Rooms.{put}
use Rattle.pdb_c.proofs.files.fill.Given as goal

-- what was put, and what is left to put, are all; each record took a byte at least
abbrev pub invariant-loop-buffer : goal.invariant-loop-buffer
invariant-loop-buffer l = record {
  same : l.buffer.bytes ≡ l.checksums;
  inside : l.buffer.place ≤ length l.checksums;
  few : l.n ≤ l.buffer.place;
  told : put l.n (map file_told (entries_from l.checksums l.buffer.place).items) (map file_row l.records) ≡ put 0 (map file_told (entries_from l.checksums 0).items) (map file_row l.fn.records);
  counted : l.n + length (entries_from l.checksums l.buffer.place).items ≡ length (entries_from l.checksums 0).items;
  fault : (entries_from l.checksums l.buffer.place).fault ≡ (entries_from l.checksums 0).fault;
  room : length l.records ≡ length l.fn.records;
}

abbrev pub decreases-loop-buffer : goal.decreases-loop-buffer
decreases-loop-buffer l = length l.checksums - l.buffer.place
