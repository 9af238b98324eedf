use Rattle.std.proofs.Common.{◌≡◌, ◌+◌, length, drop}
use Rattle.pdb.specs.Source.{Continues, IsKnown}
use Rattle.pdb_c.specs.Rooms.{put}
use Rattle.pdb_c.specs.FrameRows.{all_rows, all_names}
use Rattle.pdb_c.proofs.frames.put_all.Given as goal

-- what was put, and what is left to put, are all
abbrev pub invariant-loop-address : goal.invariant-loop-address
invariant-loop-address l = record {
  continues : Continues l.fn.resolver l.resolver;
  known : IsKnown l.resolver;
  rows : put l.count (all_rows l.fn.resolver.file l.address l.size (drop l.address l.asked)) l.rows ≡ put l.fn.count (all_rows l.fn.resolver.file 0 l.fn.size l.asked) l.fn.rows;
  count : l.count + length (all_rows l.fn.resolver.file l.address l.size (drop l.address l.asked)) ≡ l.fn.count + length (all_rows l.fn.resolver.file 0 l.fn.size l.asked);
  names : put l.size (all_names l.fn.resolver.file (drop l.address l.asked)) l.names ≡ put l.fn.size (all_names l.fn.resolver.file l.asked) l.fn.names;
  size : l.size + length (all_names l.fn.resolver.file (drop l.address l.asked)) ≡ l.fn.size + length (all_names l.fn.resolver.file l.asked);
}
