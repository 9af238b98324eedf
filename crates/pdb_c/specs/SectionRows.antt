-- Section headers as rows.
use Rattle.std.specs.Prelude.{◌≡◌, ℕ, List, length, Option, Some, None, Result}
use Rattle.pdb.specs.Error.{Error}
use Rattle.pdb.specs.Refusal.{◌>>=◌}
use Rattle.pdb.specs.Container.{opens}
use Rattle.pdb.specs.Answers.{sections_in}
use Rattle.pdb.specs.ImageSectionHeader.{ImageSectionHeader}
use Rattle.pdb.specs.SectionHeader.{name_of}
use Rattle.pdb_c.specs.Lists.{IsListed, Obtained, whole_list}
use Rattle.pdb_c.specs.declared.sections.PdbSection.{PdbSection}

-- a section header as a row
abbrev pub section_row : ImageSectionHeader → PdbSection
section_row h = record {
  name = h.name;
  name_size = length (name_of h);
  virtual_size = h.virtual_size;
  virtual_address = h.virtual_address;
  size_of_raw_data = h.size_of_raw_data;
  pointer_to_raw_data = h.pointer_to_raw_data;
  pointer_to_relocations = h.pointer_to_relocations;
  pointer_to_line_numbers = h.pointer_to_line_numbers;
  number_of_relocations = h.number_of_relocations;
  number_of_line_numbers = h.number_of_line_numbers;
  characteristics = h.characteristics.0;
}

-- the section headers of a file; none where it names no stream of them
unfoldable pub headers_of_file : List ℕ → Result (Option (List ImageSectionHeader)) Error
headers_of_file file = opens file >>= λ u. sections_in file

-- what a call put of section headers: 33 where there is no stream of them
abbrev pub SectionsPut : ℕ → List PdbSection → List PdbSection → ℕ → Option (List ImageSectionHeader) → Type 0
SectionsPut code old new count None = (code ≡ 33) × (new ≡ old) × (count ≡ 0)
SectionsPut code old new count (Some headers) = IsListed (λ r. r) section_row code old new count (whole_list headers)

-- what a call put of the section headers of a file
abbrev pub SectionsTold : ℕ → List PdbSection → List PdbSection → ℕ → Result (Option (List ImageSectionHeader)) Error → Type 0
SectionsTold code old new count read = Obtained (SectionsPut code old new count) code old new count read
