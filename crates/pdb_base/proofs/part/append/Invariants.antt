use Rattle.std.proofs.Common.{◌≡◌, ◌++◌, length}
use Rattle.pdb_base.proofs.part.append.Given as goal

-- what is there, and what is left of the bytes
abbrev pub invariant-loop-rest : goal.invariant-loop-rest
invariant-loop-rest l = l.all.items ++ l.rest ≡ l.fn.all.items ++ l.fn.bytes

abbrev pub decreases-loop-rest : goal.decreases-loop-rest
decreases-loop-rest l = length l.rest
