use Rattle.std.proofs.Common.{◌≡◌, ◌++◌, drop}
use Rattle.pdb_stacks.specs.LineReferences.{candidates, candidates_from}
use Rattle.pdb_stacks.specs.SymbolMarks.{IsNearest}
use Rattle.pdb_stacks.proofs.references.put_candidates.Given as goal

-- the references so far were put, and the others stand in what is left
abbrev pub invariant-loop-at : goal.invariant-loop-at
invariant-loop-at l = record {
  puts : l.out.items ++ candidates_from l.line l.free l.at (drop l.at l.line) ≡ l.fn.out.items ++ candidates l.line;
  known : IsNearest l.line l.mark;
}
