use Rattle.pdb_index.specs.IndexLayout.{word_at}
use Rattle.pdb_index.specs.Searches.{Rises}
use Rattle.pdb_index.proofs.rising.rises.Given as goal

-- the numbers so far rise
abbrev pub invariant-loop-row : goal.invariant-loop-row
invariant-loop-row l = Rises (λ k. word_at l.bytes l.table k l.within) l.first l.row
