use Rattle.std.proofs.Common.{◌≡◌, ◌-◌, ◌≤◌, length}
use Rattle.pdb_records.specs.RecordParts.{names_at, names_counted}
use Rattle.pdb_records.proofs.NameLoops.{plus}
use Rattle.pdb_records.proofs.strings.count_names.Given as goal

-- what was counted, and what is still to be counted, is all
abbrev pub invariant-loop-buffer : goal.invariant-loop-buffer
invariant-loop-buffer l = record {
  inside : l.buffer.place ≤ length l.buffer.bytes;
  small : l.count ≤ l.buffer.place;
  same : l.buffer.bytes ≡ l.bytes;
  counted : plus l.count (names_at l.bytes l.buffer.place) ≡ names_counted l.bytes 0;
}

abbrev pub decreases-loop-buffer : goal.decreases-loop-buffer
decreases-loop-buffer l = length l.buffer.bytes - l.buffer.place
