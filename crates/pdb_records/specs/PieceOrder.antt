-- The order of gaps.
use Rattle.std.specs.Prelude.{ℕ}
use Rattle.pdb_records.specs.declared.lists.AddressGap.{AddressGap}

abbrev pub start_of : AddressGap → ℕ
start_of gap = gap.start
