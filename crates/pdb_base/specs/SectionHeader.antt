-- The header of a section of an image: 40 bytes.
use Rattle.std.specs.Prelude.{ℕ, ◌+◌, List, length, take, drop, Result, Ok, Err, nat_le, ◌==◌, position, if◌then◌else◌}
use Rattle.std.specs.Option.{unwrap_or}
use Rattle.pdb_base.specs.declared.error.Error.{Error}
use Rattle.pdb_base.specs.declared.error.Error.TheVariants.{UnexpectedEof}
use Rattle.pdb_base.specs.declared.section_header.ImageSectionHeader.{ImageSectionHeader}
use Rattle.pdb_base.specs.Fields.{number}
use Rattle.pdb_base.specs.Places.{IsNumber, IsSlice}
use Rattle.pdb_base.specs.Left.{whole}
use Rattle.pdb_base.specs.Tiling.{Row, listing}
use Rattle.pdb_base.specs.Reading.{read_row}

-- the fields of the header of which the bytes are h
abbrev pub header_of : List ℕ → ImageSectionHeader
header_of h = record {
  name = take 8 h;
  virtual_size = number h 8 4;
  virtual_address = number h 12 4;
  size_of_raw_data = number h 16 4;
  pointer_to_raw_data = number h 20 4;
  pointer_to_relocations = number h 24 4;
  pointer_to_line_numbers = number h 28 4;
  number_of_relocations = number h 32 2;
  number_of_line_numbers = number h 34 2;
  characteristics = record { 0 = number h 36 4 };
}

-- the header that stands at p
unfoldable pub header_at : List ℕ → ℕ → Result ImageSectionHeader Error
header_at b p = if nat_le (p + 40) (length b) then Ok (header_of (take 40 (drop p b))) else Err UnexpectedEof

-- h is the header of the bytes at p, by the places of its fields
pub record IsSectionHeader (b : List ℕ) (p : ℕ) (h : ImageSectionHeader) : Type 0 where
  pub name : IsSlice b p 8 h.name
  pub virtual_size : IsNumber b (p + 8) 4 h.virtual_size
  pub virtual_address : IsNumber b (p + 12) 4 h.virtual_address
  pub size_of_raw_data : IsNumber b (p + 16) 4 h.size_of_raw_data
  pub pointer_to_raw_data : IsNumber b (p + 20) 4 h.pointer_to_raw_data
  pub pointer_to_relocations : IsNumber b (p + 24) 4 h.pointer_to_relocations
  pub pointer_to_line_numbers : IsNumber b (p + 28) 4 h.pointer_to_line_numbers
  pub number_of_relocations : IsNumber b (p + 32) 2 h.number_of_relocations
  pub number_of_line_numbers : IsNumber b (p + 34) 2 h.number_of_line_numbers
  pub characteristics : IsNumber b (p + 36) 4 h.characteristics.0

-- the bytes of a header's name before the first zero byte, or all eight
abbrev pub name_of : ImageSectionHeader → List ℕ
name_of h = take (unwrap_or (position (λ x. x == 0) h.name) 8) h.name

-- headers one after another
abbrev pub headers : Row ImageSectionHeader
headers = read_row header_at (λ p h. 40)

-- the headers that bytes are, or what is wrong
unfoldable pub headers_of : List ℕ → Result (List ImageSectionHeader) Error
headers_of b = whole (listing headers b 0)
