use Rattle.std.proofs.Common.{◌≡◌, ◌+◌, length, drop, map}
use Rattle.pdb_resolve.specs.KeptFrames.{shown_frame}
use Rattle.pdb_c.specs.Rooms.{put}
use Rattle.pdb_c.specs.FrameRows.{frame_rows, frames_bytes}
use Rattle.pdb_c.proofs.frames.put_frames.Given as goal

-- what was put, and what is left to put, are all
abbrev pub invariant-loop-frame : goal.invariant-loop-frame
invariant-loop-frame l = record {
  rows : put l.count (frame_rows l.address l.size (map shown_frame (drop l.frame-index l.found))) l.rows ≡ put l.fn.count (frame_rows l.address l.fn.size (map shown_frame l.found)) l.fn.rows;
  count : l.count + length (drop l.frame-index l.found) ≡ l.fn.count + length l.found;
  names : put l.size (frames_bytes (map shown_frame (drop l.frame-index l.found))) l.names ≡ put l.fn.size (frames_bytes (map shown_frame l.found)) l.fn.names;
  size : l.size + length (frames_bytes (map shown_frame (drop l.frame-index l.found))) ≡ l.fn.size + length (frames_bytes (map shown_frame l.found));
}
