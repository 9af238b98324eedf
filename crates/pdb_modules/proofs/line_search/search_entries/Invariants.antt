use Rattle.std.proofs.Common.{List, map, take}
use Rattle.pdb_modules.specs.declared.line_info.LineInfo.{LineInfo}
use Rattle.pdb_modules.specs.Blocks.{entries_of}
use Rattle.pdb_modules.specs.BlockViews.{block_of}
use Rattle.pdb_modules.specs.KeptRows.{after}
use Rattle.pdb_modules.specs.Lines.{entry_mark}
use Rattle.pdb_modules.specs.LineSearch.{IsSearched}
use Rattle.pdb_modules.proofs.line_search.search_entries.Given as goal

-- no record that the entries so far closed covers the place
abbrev pub invariant-loop-i : goal.invariant-loop-i
invariant-loop-i l = (rs : List LineInfo) → IsSearched l.place rs l.fn.last → IsSearched l.place (after rs (map (entry_mark l.from) (take l.i (entries_of l.has_columns (block_of l.block))))) l.last
