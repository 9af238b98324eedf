use Rattle.pdb_index.specs.IndexLayout.{word_at}
use Rattle.pdb_index.specs.WellMade.{HasNames}
use Rattle.pdb_index.proofs.named.has_names.Given as goal

-- the names of the rows so far are among the names
abbrev pub invariant-loop-row : goal.invariant-loop-row
invariant-loop-row l = HasNames l.index.bytes.now l.index.layout (word_at l.index.bytes.now l.table) l.row
