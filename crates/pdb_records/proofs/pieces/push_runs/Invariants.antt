use Rattle.std.proofs.Common.{◌≡◌, ◌++◌, drop}
use Rattle.pdb_records.specs.RangePieces.{runs_between}
use Rattle.pdb_records.proofs.pieces.push_runs.Given as goal

-- the runs so far, and those between the gaps that are left, are all
abbrev pub invariant-loop-gap : goal.invariant-loop-gap
invariant-loop-gap l = l.pieces.items ++ runs_between l.len l.at (drop l.gap-index l.gaps) ≡ l.fn.pieces.items ++ runs_between l.len 0 l.gaps
