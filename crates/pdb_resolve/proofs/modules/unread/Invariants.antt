use Rattle.std.proofs.Common.{◌≡◌, map, None}
use Rattle.std.specs.Prelude.{replicate}
use Rattle.pdb_resolve.specs.KeptParts.{boxed}
use Rattle.pdb_resolve.proofs.modules.unread.Given as goal

-- as many as turns were made, none of them read
abbrev pub invariant-loop : goal.invariant-loop
invariant-loop l = map boxed l.codes.items ≡ replicate l.counter None
