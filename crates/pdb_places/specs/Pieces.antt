-- Pieces of code, and the ranges that are kept of them.
use Rattle.std.specs.Prelude.{◌≡◌, ◌⊎◌, All, ℕ, Bool, true, List, ◌≤◌, find, length, Option, Some, None, map}
use Rattle.pdb.specs.PdbInternalSectionOffset.{PdbInternalSectionOffset}
use Rattle.pdb.specs.LineCover.{bytes_cover}
use Rattle.std.specs.Option.{option_map}
use Rattle.pdb_places.specs.declared.range.CodeRange.{CodeRange}
use Rattle.pdb_places.specs.Covering.{first_covering}
use Rattle.pdb_places.specs.RangeOrder.{InOrder}

-- a piece of code: its symbol's index, where it begins, how many bytes it has, and the index of the symbol that ends its scope
pub record Code : Type 0 where
  pub index : ℕ
  pub place : PdbInternalSectionOffset
  pub length : ℕ
  pub end : ℕ

abbrev pub code_covers : PdbInternalSectionOffset → Code → Bool
code_covers q c = bytes_cover q c.place c.length

abbrev pub index_of : Code → ℕ
index_of c = c.index

-- the place is where the piece begins
abbrev pub begins_at : PdbInternalSectionOffset → Code → Bool
begins_at q c = bytes_cover q c.place 1

abbrev pub SameCode : Code → Code → Type 0
SameCode c d = (c.place.section ≡ d.place.section) × (c.place.offset ≡ d.place.offset) × (c.length ≡ d.length)

abbrev pub ApartCode : Code → Code → Type 0
ApartCode c d = (q : PdbInternalSectionOffset) → code_covers q c ≡ true → code_covers q d ≡ true → ⊥

-- any two have the same bytes, or none in common
abbrev pub AreCodesApart : List Code → Type 0
AreCodesApart cs = All (λ c. All (λ d. SameCode c d ⊎ ApartCode c d) cs) cs

-- a range and a piece of code, each as its index, its place and its length
abbrev pub range_parts : CodeRange → ℕ × (PdbInternalSectionOffset × ℕ)
range_parts r = (r.payload, (r.place, r.length))

abbrev pub code_parts : Code → ℕ × (PdbInternalSectionOffset × ℕ)
code_parts c = (c.index, (c.place, c.length))

-- the ranges are those of these pieces of code
abbrev pub AreRangesOf : List Code → List CodeRange → Type 0
AreRangesOf cs rs = map range_parts rs ≡ map code_parts cs

-- ranges that are kept find what these pieces of code have, and stand in order where those don't overlap
pub record IsKeptOf (cs : List Code) (rs : List CodeRange) : Type 0 where
  pub finds : (q : PdbInternalSectionOffset) → first_covering q rs ≡ option_map index_of (find (code_covers q) cs)
  pub apart : AreCodesApart cs → InOrder rs
  pub few : length rs ≤ length cs

-- a piece of code as the one byte where it begins
abbrev pub start_parts : Code → ℕ × (PdbInternalSectionOffset × ℕ)
start_parts c = (c.index, (c.place, 1))

abbrev pub range_start : CodeRange → ℕ × (PdbInternalSectionOffset × ℕ)
range_start r = (r.payload, (r.place, 1))

-- ranges that are kept find which of these pieces begin at a place
abbrev pub AreStartsOf : List Code → List CodeRange → Type 0
AreStartsOf cs rs = (q : PdbInternalSectionOffset) → first_covering q rs ≡ option_map index_of (find (begins_at q) cs)

abbrev pub AreStartsIfMade : List Code → Option (List CodeRange) → Type 0
AreStartsIfMade cs None = Unit {0}
AreStartsIfMade cs (Some rs) = AreStartsOf cs rs
