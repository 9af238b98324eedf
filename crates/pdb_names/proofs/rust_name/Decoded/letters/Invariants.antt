use Rattle.std.proofs.Common.{length}
use Rattle.pdb_names.specs.RustNames.{is_read, letter, letters}
use Rattle.pdb_names.specs.Views.{decoded_of}
use Rattle.pdb_names.proofs.Runs.{Run}
use Rattle.pdb_names.proofs.rust_name.Decoded.letters.Given as goal

abbrev pub invariant-loop-self : goal.invariant-loop-self
invariant-loop-self l = Run is_read letter (letters (decoded_of l.initial.self)) (length l.initial.self.rest.now) (length l.self.rest.now) (decoded_of l.self)

abbrev pub decreases-loop-self : goal.decreases-loop-self
decreases-loop-self l = length l.self.rest.now
