-- Which places a line record covers.
use Rattle.std.specs.Prelude.{◌≡◌, ℕ, Bool, false, ◌+◌, ◌<◌, ◌≤◌, ◌&&◌, ◌==◌, nat_le, nat_lt, Option, Some, None}
use Rattle.std.specs.Option.{IsSomeAnd}
use Rattle.pdb_base.specs.declared.index.PdbInternalSectionOffset.{PdbInternalSectionOffset}
use Rattle.pdb_modules.specs.declared.line_info.LineInfo.{LineInfo}

-- a place is one of a record's bytes; a record of which it isn't known how many it has covers none
pub record Covers (q : PdbInternalSectionOffset) (r : LineInfo) : Type 0 where
  pub section : r.offset.section ≡ q.section
  pub from : r.offset.offset ≤ q.offset
  pub before : IsSomeAnd r.length (λ n. q.offset < r.offset.offset + n)

-- computed: whether so many bytes from a place on have the one at q
abbrev pub bytes_cover : PdbInternalSectionOffset → PdbInternalSectionOffset → ℕ → Bool
bytes_cover q p n = (p.section == q.section) && (nat_le p.offset q.offset && nat_lt q.offset (p.offset + n))

-- whether it is known how many there are, and they have it
abbrev pub length_covers : PdbInternalSectionOffset → PdbInternalSectionOffset → Option ℕ → Bool
length_covers q p (Some n) = bytes_cover q p n
length_covers q p None = false

abbrev pub line_covers : PdbInternalSectionOffset → LineInfo → Bool
line_covers q r = length_covers q r.offset r.length
