use Rattle.std.proofs.Common.{◌≡◌, ◌+◌, length, drop, true}
use Rattle.pdb.specs.Source.{Continues, IsKnown}
use Rattle.pdb_c.specs.Rooms.{put}
use Rattle.pdb_c.specs.Streams.{stream_rows, all_bytes}
use Rattle.pdb_c.proofs.streams.put_streams.Given as goal

-- what was put, and what is left to put, are all
abbrev pub invariant-loop-place : goal.invariant-loop-place
invariant-loop-place l = record {
  continues : Continues l.fn.pdb l.pdb;
  steady : l.pdb.steady ≡ true;
  known : IsKnown l.pdb;
  rows : put l.place (stream_rows l.fn.pdb.file l.end (drop l.place l.numbers)) l.rows ≡ put 0 (stream_rows l.fn.pdb.file 0 l.numbers) l.fn.rows;
  room : put l.end (all_bytes l.fn.pdb.file (drop l.place l.numbers)) l.room ≡ put 0 (all_bytes l.fn.pdb.file l.numbers) l.fn.room;
  size : l.end + length (all_bytes l.fn.pdb.file (drop l.place l.numbers)) ≡ length (all_bytes l.fn.pdb.file l.numbers);
}
