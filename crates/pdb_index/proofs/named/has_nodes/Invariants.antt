use Rattle.std.proofs.Common.{ℕ, ◌<◌}
use Rattle.pdb_index.specs.WellMade.{IsNode}
use Rattle.pdb_index.proofs.named.has_nodes.Given as goal

-- what the nodes so far name is there
abbrev pub invariant-loop-number : goal.invariant-loop-number
invariant-loop-number l = (k : ℕ) → k < l.number → IsNode l.index.bytes.now l.index.layout k
