use Rattle.pdb_places.proofs.Keyed.{NeverFalls}
use Rattle.pdb_places.proofs.TablePairs.{start_in}
use Rattle.pdb_places.proofs.pairs.rises.Given as goal

-- the pairs so far never fall
abbrev pub invariant-loop-pair : goal.invariant-loop-pair
invariant-loop-pair l = NeverFalls (start_in l.table) l.pair
