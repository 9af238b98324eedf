use Rattle.std.proofs.Common.{◌≡◌, ◌++◌, drop, length, map}
use Rattle.pdb_c.specs.TypeRows.{joined, type_name_rows, type_text}
use Rattle.pdb_c.proofs.type_names.add_all.Given as goal

-- what was added, and what is left to add, are all
abbrev pub invariant-loop-index : goal.invariant-loop-index
invariant-loop-index l = record {
  rows : l.rows.items ++ type_name_rows (length l.bytes.items) (map (type_text l.types.items) (drop l.index-index l.indices)) ≡ l.fn.rows.items ++ type_name_rows (length l.fn.bytes.items) (map (type_text l.types.items) l.indices);
  bytes : l.bytes.items ++ joined (map (type_text l.types.items) (drop l.index-index l.indices)) ≡ l.fn.bytes.items ++ joined (map (type_text l.types.items) l.indices);
}
