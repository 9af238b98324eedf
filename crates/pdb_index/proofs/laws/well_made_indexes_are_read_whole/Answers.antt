use Rattle.pdb_index.specs.IndexLayout.{layout_of}
use Rattle.pdb_index.proofs.WholeReads.{places, runs}
use Rattle.pdb_index.proofs.WholeStacks.{stacks}
use Rattle.pdb_index.proofs.laws.well_made_indexes_are_read_whole.Goals as goal

pub returns-clause-places : goal.returns-clause-places
returns-clause-places c = λ b address place well. places b (layout_of b) well.rising well.named address place

pub returns-clause-runs : goal.returns-clause-runs
returns-clause-runs c = λ b section offset run well. runs b (layout_of b) well.rising well.named section offset run

pub returns-clause-frames : goal.returns-clause-frames
returns-clause-frames c = λ b k well lt. stacks b (layout_of b) well.named (layout_of b).deepest k (well.shallow.each k lt) lt

pub returns-clause-nodes : goal.returns-clause-nodes
returns-clause-nodes c = λ b k well lt. well.named.runs k lt
