use Rattle.std.proofs.Common.{◌≡◌, length}
use Rattle.pdb_resolve.proofs.modules.rooms_of.Given as goal

-- as many as turns were made
abbrev pub invariant-loop : goal.invariant-loop
invariant-loop l = length l.rooms.items ≡ l.counter
