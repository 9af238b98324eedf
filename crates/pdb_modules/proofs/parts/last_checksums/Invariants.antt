use Rattle.std.proofs.Common.{◌≡◌, ◌-◌, ◌≤◌, length}
use Rattle.pdb_modules.proofs.WholePieces.{IsKeeping}
use Rattle.pdb_modules.proofs.parts.last_checksums.Given as goal

-- the last checksums so far are kept
abbrev pub invariant-loop-buffer : goal.invariant-loop-buffer
invariant-loop-buffer l = record {
  same : l.buffer.bytes ≡ l.lines_data;
  inside : l.buffer.place ≤ length l.lines_data;
  keeping : IsKeeping l.lines_data l.buffer.place l.checksums;
}

abbrev pub decreases-loop-buffer : goal.decreases-loop-buffer
decreases-loop-buffer l = length l.lines_data - l.buffer.place
