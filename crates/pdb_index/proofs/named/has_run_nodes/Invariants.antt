use Rattle.std.proofs.Common.{ℕ, ◌/◌, ◌<◌}
use Rattle.pdb_index.specs.IndexLayout.{field_at}
use Rattle.pdb_index.proofs.named.has_run_nodes.Given as goal

-- the nodes of the runs so far are there
abbrev pub invariant-loop-run : goal.invariant-loop-run
invariant-loop-run l = (k : ℕ) → k < l.run → field_at l.index.bytes.now l.index.layout.values k 0 l.index.layout.values.width / 2 < l.index.layout.nodes.rows
