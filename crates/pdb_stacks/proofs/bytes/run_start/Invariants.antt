use Rattle.std.proofs.Common.{◌≡◌, ◌≤◌, length}
use Rattle.pdb_stacks.specs.LineBytes.{run_before, run_start}
use Rattle.pdb_stacks.proofs.bytes.run_start.Given as goal

-- the bytes so far are of the kind
abbrev pub invariant-loop-start : goal.invariant-loop-start
invariant-loop-start l = record {
  same : run_start l.kind l.line l.end ≡ run_before l.kind l.line l.start;
  within : l.start ≤ length l.line;
}

abbrev pub decreases-loop-start : goal.decreases-loop-start
decreases-loop-start l = l.start
