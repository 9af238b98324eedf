-- Indices: how they are shown and compared.
use Rattle.std.specs.Prelude.{ℕ, List, ◌++◌, false, codes, ◌==◌, Option, Some, None, if◌then◌else◌}
use Rattle.std.specs.Fmt.{digits}
use Rattle.std.specs.Ordering.{nat_cmp}
use Rattle.std.specs.declared.cmp.Ordering.{Ordering}
use Rattle.pdb_base.specs.declared.index.PdbInternalSectionOffset.{PdbInternalSectionOffset}

-- `0x`, and lower hexadecimal digits without zeros before them
abbrev pub hex_of : ℕ → List ℕ
hex_of n = codes "0x" ++ digits 16 false n

-- offsets within one section compare as numbers, and others don't compare
abbrev pub by_section : PdbInternalSectionOffset → PdbInternalSectionOffset → Option Ordering
by_section a b = if a.section == b.section then Some (nat_cmp a.offset b.offset) else None
