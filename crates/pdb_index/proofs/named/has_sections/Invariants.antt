use Rattle.std.proofs.Common.{ℕ, ◌<◌}
use Rattle.pdb_index.specs.IndexLayout.{word_at}
use Rattle.pdb_index.proofs.named.has_sections.Given as goal

-- the sections so far are those of an image, or none
abbrev pub invariant-loop-segment : goal.invariant-loop-segment
invariant-loop-segment l = (k : ℕ) → k < l.segment → word_at l.index.bytes.now l.index.layout.segments k 4 < 65536
