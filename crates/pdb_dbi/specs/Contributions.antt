-- The section contributions: records that stand one after another.
use Rattle.std.specs.Prelude.{ℕ, ◌+◌, ◌≤◌, List, length, drop, Result, Ok, Err, ◌==◌, nat_lt, if◌then◌else◌}
use Rattle.pdb_base.specs.declared.error.Error.{Error}
use Rattle.pdb_base.specs.declared.error.Error.TheVariants.{UnexpectedEof}
use Rattle.pdb_base.specs.Refusal.{◌>>=◌}
use Rattle.pdb_base.specs.Fields.{number, bytes_at}
use Rattle.pdb_base.specs.Left.{Left}
use Rattle.pdb_base.specs.Places.{IsNumber}
use Rattle.pdb_base.specs.Tiling.{Row, listing}
use Rattle.pdb_base.specs.Reading.{read_row}
use Rattle.pdb_dbi.specs.declared.contributions.DBISectionContribution.{DBISectionContribution}
use Rattle.pdb_dbi.specs.Header.{header_of}

-- the fields of the record of which the bytes are c
abbrev pub contribution_of : List ℕ → DBISectionContribution
contribution_of c = record {
  offset = record { offset = number c 4 4; section = number c 0 2 };
  size = number c 8 4;
  characteristics = record { 0 = number c 12 4 };
  «module» = number c 16 2;
  data_crc = number c 20 4;
  reloc_crc = number c 24 4;
}

-- the contribution at p, whose record has so many bytes
unfoldable pub contribution_at : ℕ → List ℕ → ℕ → Result DBISectionContribution Error
contribution_at size b p = bytes_at b p size >>= λ c. Ok (contribution_of c)

-- the size of a record of a part of this version
abbrev pub record_size : ℕ → ℕ
record_size version = if version == 0xf13151e4 then 32 else 28

abbrev pub contributions : ℕ → Row DBISectionContribution
contributions size = read_row (contribution_at size) (λ p c. size)

-- the records of a part, which stand behind its version
unfoldable pub records_of : List ℕ → Result (List ℕ) Error
records_of part = if nat_lt (length part) 4 then Err UnexpectedEof else Ok (drop 4 part)

-- the contributions of a part
unfoldable pub contributions_of : List ℕ → Result (Left DBISectionContribution) Error
contributions_of part = records_of part >>= λ records. Ok (listing (contributions (record_size (number part 0 4))) records 0)

-- the part of a DBI stream, which stands behind the module list
unfoldable pub contribution_part_of : List ℕ → Result (List ℕ) Error
contribution_part_of b = header_of b >>= λ h. bytes_at b (64 + h.module_list_size) h.section_contribution_size

unfoldable pub contribution_records_of : List ℕ → Result (List ℕ) Error
contribution_records_of b = contribution_part_of b >>= records_of

-- the contributions of a DBI stream
unfoldable pub contributions_in : List ℕ → Result (Left DBISectionContribution) Error
contributions_in b = contribution_part_of b >>= contributions_of

-- c is the contribution of the record of so many bytes at p, by the places of its fields
pub record IsContribution (width : ℕ) (b : List ℕ) (p : ℕ) (c : DBISectionContribution) : Type 0 where
  pub section : IsNumber b p 2 c.offset.section
  pub offset : IsNumber b (p + 4) 4 c.offset.offset
  pub size : IsNumber b (p + 8) 4 c.size
  pub characteristics : IsNumber b (p + 12) 4 c.characteristics.0
  pub «module» : IsNumber b (p + 16) 2 c.«module»
  pub data_crc : IsNumber b (p + 20) 4 c.data_crc
  pub reloc_crc : IsNumber b (p + 24) 4 c.reloc_crc
  pub there : p + width ≤ length b
