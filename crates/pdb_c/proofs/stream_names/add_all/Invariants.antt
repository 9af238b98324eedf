use Rattle.std.proofs.Common.{◌≡◌, map}
use Rattle.pdb.specs.DbiViews.{stream_name}
use Rattle.pdb_c.specs.StreamNameRows.{name_rows, names_bytes}
use Rattle.pdb_c.proofs.stream_names.add_all.Given as goal

-- the rows and the bytes of the names so far were added
abbrev pub invariant-loop-listed : goal.invariant-loop-listed
invariant-loop-listed l = record {
  rows : l.rows.items ≡ name_rows 0 (map stream_name (map (λ n. n.now) l.yielded));
  bytes : l.bytes.items ≡ names_bytes (map stream_name (map (λ n. n.now) l.yielded));
}
