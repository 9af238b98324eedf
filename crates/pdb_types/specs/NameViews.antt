-- What values of the code show in the definitions of names.
use Rattle.std.specs.Prelude.{ℕ}
use Rattle.pdb_types.specs.declared.pointer.PointerAttributes.{PointerAttributes}

abbrev pub this_numbers : ℕ × PointerAttributes → ℕ × ℕ
this_numbers x = (x.0, x.1.0)
