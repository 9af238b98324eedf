-- A word of private functions: the place of a public symbol, of which no more is read.
use Rattle.std.specs.Prelude.{◌≡◌, ℕ, List, Some}
use Rattle.std.specs.Option.{option_map}
use Rattle.pdb.specs.Forms.{record_at}
use Rattle.pdb.specs.PdbInternalSectionOffset.{PdbInternalSectionOffset}
use Rattle.pdb_places.specs.PublicNames.{public_said}
use Rattle.pdb_places.specs.PublicTable.{public_parts}

-- a record of bytes b is a public symbol at q
pub record IsPublicAt (b : List ℕ) (q : PdbInternalSectionOffset) : Type 0 where
  pub is : (index : ℕ) → option_map public_parts (public_said index (record_at b)) ≡ Some (index, q)
