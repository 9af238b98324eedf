-- What the values of enumerators show.
use Rattle.std.specs.Prelude.{ℤ, pos}
use Rattle.pdb_types.specs.declared.enumerators.EnumeratorValue.{EnumeratorValue}
use Rattle.pdb_types.specs.declared.enumerators.EnumeratorValue.TheVariants.{Signed, Unsigned}

abbrev pub shown_value : EnumeratorValue → ℤ
shown_value (Signed z) = z
shown_value (Unsigned n) = pos n
