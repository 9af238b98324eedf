use Rattle.std.proofs.Common.{◌≡◌, ◌+◌, ◌-◌, ◌≤◌, length, vec_len}
use Rattle.pdb_modules.proofs.BlockLemmas.{IsReading}
use Rattle.pdb_modules.proofs.rows.add_part.Given as goal

-- the blocks so far are read
abbrev pub invariant-loop-buffer : goal.invariant-loop-buffer
invariant-loop-buffer l = record {
  room : l.from ≤ vec_len l.rows;
  few : vec_len l.rows ≤ vec_len l.fn.rows + l.buffer.place;
  same : l.buffer.bytes ≡ l.part.bytes.now;
  inside : l.buffer.place ≤ length l.part.bytes.now;
  reading : IsReading l.part.place l.part.has_columns l.part.bytes.now l.buffer.place l.fn.rows.items l.rows.items;
}

abbrev pub decreases-loop-buffer : goal.decreases-loop-buffer
decreases-loop-buffer l = length l.part.bytes.now - l.buffer.place
