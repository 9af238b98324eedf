use Rattle.std.proofs.Common.{◌≡◌, ◌+◌, ◌≤◌, List, map, take, length, ◌++◌, vec_len}
use Rattle.pdb_modules.specs.declared.line_info.LineInfo.{LineInfo}
use Rattle.pdb_modules.specs.Blocks.{entries_of}
use Rattle.pdb_modules.specs.BlockViews.{block_of}
use Rattle.pdb_modules.specs.KeptRows.{whole, own, after}
use Rattle.pdb_modules.specs.Lines.{Mark, entry_mark, records}
use Rattle.pdb_modules.proofs.rows.add_entries.Given as goal

-- the marks of the entries so far came one after another
abbrev pub invariant-loop-i : goal.invariant-loop-i
invariant-loop-i l = record {
  room : l.from ≤ vec_len l.rows;
  grown : vec_len l.fn.rows ≤ vec_len l.rows;
  few : vec_len l.rows ≤ vec_len l.fn.rows + l.i;
  shown : map whole l.rows.items ≡ after (map whole l.fn.rows.items) (map (entry_mark l.place) (take l.i (entries_of l.has_columns (block_of l.block))));
  alone : (done : List LineInfo) (ms : List Mark) → length done ≡ l.from → map own l.fn.rows.items ≡ done ++ records ms → map own l.rows.items ≡ done ++ records (ms ++ map (entry_mark l.place) (take l.i (entries_of l.has_columns (block_of l.block))));
}
