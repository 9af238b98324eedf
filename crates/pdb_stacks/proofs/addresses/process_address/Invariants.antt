use Rattle.std.proofs.Common.{◌≡◌}
use Rattle.pdb_stacks.specs.ProcessAddresses.{process_address}
use Rattle.pdb_stacks.proofs.WordSteps.{chosen_from}
use Rattle.pdb_stacks.proofs.addresses.process_address.Given as goal

-- the address is chosen of what is left, and of the first so far
abbrev pub invariant-loop-at : goal.invariant-loop-at
invariant-loop-at l = process_address l.line ≡ chosen_from l.line l.first l.free l.at
