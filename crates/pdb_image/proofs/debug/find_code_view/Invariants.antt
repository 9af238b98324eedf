-- The entries before are of other types: the first one is that of those that are left.
use Rattle.std.proofs.Common.{◌≡◌, ◌+◌, ◌-◌, ◌*◌}
use Rattle.std.specs.Prelude.{◌==◌}
use Rattle.std.specs.List.{find, range_with_len}
use Rattle.pdb_base.specs.Fields.{number}
use Rattle.pdb_image.specs.Debug.{code_view_of}
use Rattle.pdb_image.proofs.debug.find_code_view.Given as goal

abbrev pub invariant-loop-entry : goal.invariant-loop-entry
invariant-loop-entry l = code_view_of l.bytes l.entries l.count ≡ find (λ i. number l.bytes (l.entries + 28 * i + 12) 4 == 2) (range_with_len l.entry (l.count - l.entry))
