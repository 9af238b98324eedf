-- The sections before don't have the address: the first one is that of those that are left.
use Rattle.std.proofs.Common.{◌≡◌, ◌-◌}
use Rattle.std.specs.List.{find, range_with_len}
use Rattle.pdb_image.specs.Debug.{has_address, section_of}
use Rattle.pdb_image.proofs.debug.find_section.Given as goal

abbrev pub invariant-loop-section : goal.invariant-loop-section
invariant-loop-section l = section_of l.bytes l.headers l.count l.address ≡ find (has_address l.bytes l.headers l.address) (range_with_len l.section (l.count - l.section))
