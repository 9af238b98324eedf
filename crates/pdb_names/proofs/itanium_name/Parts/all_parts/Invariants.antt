use Rattle.std.proofs.Common.{length}
use Rattle.pdb_names.specs.ItaniumNames.{all_parts, is_end, part}
use Rattle.pdb_names.specs.Views.{parts_of}
use Rattle.pdb_names.proofs.Runs.{Run}
use Rattle.pdb_names.proofs.itanium_name.Parts.all_parts.Given as goal

abbrev pub invariant-loop-alloc : goal.invariant-loop-alloc
invariant-loop-alloc l = Run is_end part (all_parts (parts_of l.initial.self)) (length l.initial.self.rest.now) (length l.self.rest.now) (parts_of l.self)

abbrev pub decreases-loop-alloc : goal.decreases-loop-alloc
decreases-loop-alloc l = length l.self.rest.now
