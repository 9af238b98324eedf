use Rattle.std.proofs.Common.{◌≡◌}
use Rattle.pdb_stacks.specs.LineBytes.{run_end}
use Rattle.pdb_stacks.proofs.bytes.run_end.Given as goal

-- the bytes so far are of the kind
abbrev pub invariant-loop-at : goal.invariant-loop-at
invariant-loop-at l = run_end l.kind l.line l.from ≡ run_end l.kind l.line l.at
