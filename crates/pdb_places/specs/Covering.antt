-- The first listed range that covers a place.
use Rattle.std.specs.Prelude.{◌≡◌, ℕ, ◌+◌, ◌<◌, ◌≤◌, Bool, nat_le, ◌⊎◌, All, if◌then◌else◌, List, [], ◌∷◌, length, get_or, Option, Some, None}
use Rattle.pdb.specs.LineCover.{bytes_cover}
use Rattle.pdb.specs.PdbInternalSectionOffset.{PdbInternalSectionOffset}
use Rattle.pdb_places.specs.declared.range.CodeRange.{CodeRange}
use Rattle.pdb_places.specs.RangeOrder.{start_of, Same}

-- the place is one of the range's bytes, which are counted without an end
pub record Covers (q : PdbInternalSectionOffset) (r : CodeRange) : Type 0 where
  pub section : r.place.section ≡ q.section
  pub from : r.place.offset ≤ q.offset
  pub before : q.offset < r.place.offset + r.length

-- range number k is the first that covers the place
pub record IsFirst (q : PdbInternalSectionOffset) (rs : List CodeRange) (k : ℕ) (r : CodeRange) : Type 0 where
  pub there : k < length rs
  pub is : get_or rs k r ≡ r
  pub covers : Covers q r
  pub first : (j : ℕ) → j < k → Covers q (get_or rs j r) → ⊥

-- any two have the same bytes, or none in common
abbrev pub Apart : CodeRange → CodeRange → Type 0
Apart r s = (q : PdbInternalSectionOffset) → Covers q r → Covers q s → ⊥

abbrev pub AreApart : List CodeRange → Type 0
AreApart rs = All (λ r. All (λ s. Same r s ⊎ Apart r s) rs) rs

-- computed
abbrev pub covers : PdbInternalSectionOffset → CodeRange → Bool
covers q r = bytes_cover q r.place r.length

-- what stands for the first that covers the place
abbrev pub first_covering : PdbInternalSectionOffset → List CodeRange → Option ℕ
first_covering q [] = None
first_covering q (r ∷ rs) = if covers q r then Some r.payload else first_covering q rs

-- what stands for a range that begins at or before a place
abbrev pub payload_upto : ℕ → CodeRange → Option ℕ
payload_upto at r = if nat_le (start_of r) at then Some r.payload else None
