use Rattle.std.proofs.Common.{◌≡◌, None}
use Rattle.std.specs.Prelude.{replicate}
use Rattle.pdb_resolve.proofs.modules.not_there.Given as goal

-- as many as turns were made
abbrev pub invariant-loop : goal.invariant-loop
invariant-loop g l = l.infos.items ≡ replicate l.counter None
