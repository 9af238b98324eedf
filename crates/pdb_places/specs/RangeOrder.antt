-- Ranges of code among the places of all sections.
use Rattle.std.specs.Prelude.{◌≡◌, ℕ, ◌+◌, ◌*◌, ◌^◌, ◌≤◌, ◌⊎◌, min, List}
use Rattle.std.specs.List.{AllPairs}
use Rattle.pdb.specs.LineOrder.{order_of}
use Rattle.pdb_places.specs.declared.range.CodeRange.{CodeRange}

-- where a range begins, and where it ends: at its section's end at the latest
abbrev pub start_of : CodeRange → ℕ
start_of r = order_of r.place

abbrev pub end_of : CodeRange → ℕ
end_of r = r.place.section * 2 ^ 32 + min (r.place.offset + r.length) (2 ^ 32)

-- both have the same bytes
abbrev pub Same : CodeRange → CodeRange → Type 0
Same r s = (r.place.section ≡ s.place.section) × (r.place.offset ≡ s.place.offset) × (r.length ≡ s.length)

-- the one ends before the other begins, or has the same bytes
abbrev pub Goes : CodeRange → CodeRange → Type 0
Goes r s = Same r s ⊎ (end_of r ≤ start_of s)

-- each range ends before the later ones begin, or has the same bytes
pub record InOrder (rs : List CodeRange) : Type 0 where
  pub go : AllPairs Goes rs
