use Rattle.std.proofs.Common.{◌≡◌, drop}
use Rattle.pdb_stacks.specs.LineTexts.{first_found}
use Rattle.pdb_stacks.specs.SymbolMarks.{mark_at}
use Rattle.pdb_stacks.proofs.marks.nearest.Given as goal

-- the nearest mark is found in what is left
abbrev pub invariant-loop-at : goal.invariant-loop-at
invariant-loop-at l = first_found (mark_at l.line) l.from (drop l.from l.line) ≡ first_found (mark_at l.line) l.at (drop l.at l.line)
