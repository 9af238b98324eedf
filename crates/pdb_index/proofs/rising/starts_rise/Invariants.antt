use Rattle.std.proofs.Common.{ℕ, ◌+◌, ◌<◌}
use Rattle.pdb_index.specs.WellMade.{first_run, HasRuns}
use Rattle.pdb_index.proofs.rising.starts_rise.Given as goal

-- the runs of the sections so far begin at 0 and rise
abbrev pub invariant-loop-section : goal.invariant-loop-section
invariant-loop-section l = (k : ℕ) → k < l.section → HasRuns l.index.bytes.now l.index.layout (first_run l.index.bytes.now l.index.layout k) (first_run l.index.bytes.now l.index.layout (k + 1))
