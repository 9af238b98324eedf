use Rattle.std.proofs.Common.{◌≡◌, ◌-◌, ◌≤◌, length, vec_len}
use Rattle.std.specs.List.{sum_by}
use Rattle.pdb_modules.specs.LineProgram.{part_bytes}
use Rattle.pdb_modules.proofs.ProgramPieces.{IsCollecting}
use Rattle.pdb_modules.proofs.parts.ordered_parts.Given as goal

-- the parts so far are kept
abbrev pub invariant-loop-buffer : goal.invariant-loop-buffer
invariant-loop-buffer l = record {
  few : sum_by part_bytes l.lines.items ≤ l.buffer.place;
  count : vec_len l.lines ≤ l.buffer.place;
  same : l.buffer.bytes ≡ l.lines_data;
  inside : l.buffer.place ≤ length l.lines_data;
  collecting : IsCollecting l.lines_data l.buffer.place l.lines.items l.checksums;
}

abbrev pub decreases-loop-buffer : goal.decreases-loop-buffer
decreases-loop-buffer l = length l.lines_data - l.buffer.place
