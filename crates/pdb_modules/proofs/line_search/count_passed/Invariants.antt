use Rattle.pdb_modules.specs.BlockViews.{block_of}
use Rattle.pdb_modules.specs.LineSearch.{ArePassed}
use Rattle.pdb_modules.proofs.line_search.count_passed.Given as goal

-- those so far are passed
abbrev pub invariant-loop-i : goal.invariant-loop-i
invariant-loop-i l = ArePassed l.place l.from l.has_columns (block_of l.block) l.i
