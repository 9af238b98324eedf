-- A section header by the places of its fields.
use Rattle.std.proofs.Common.{◌≡◌, ℕ, ◌+◌, ◌<◌, ◌≤◌, List, length, take, drop, Ok, Err, ap, sym, ◌∙◌, inl, inr, refl, arith}
use Rattle.std.proofs.lemmas.Bool.Decides.{nat_tests}
use Rattle.std.proofs.lemmas.Bool.{cases_lt}
use Rattle.std.proofs.lemmas.List.{take-take}
use Rattle.pdb_base.specs.declared.error.Error.TheVariants.{UnexpectedEof}
use Rattle.pdb_base.specs.declared.section_header.ImageSectionHeader.{ImageSectionHeader}
use Rattle.pdb_base.specs.Fields.{number}
use Rattle.pdb_base.specs.SectionHeader.{IsSectionHeader, header_of, header_at}
use Rattle.pdb_base.proofs.Numbers.{number_2-part, number_4-part}

-- the 40 bytes of the header at p
abbrev record_at : List ℕ → ℕ → List ℕ
record_at b p = take 40 (drop p b)

header_there : (b : List ℕ) (p : ℕ) → p + 40 ≤ length b → header_at b p ≡ Ok (header_of (record_at b p))
unfolding header_at
header_there b p h = grind (arith, nat_tests)

header_not : (b : List ℕ) (p : ℕ) → length b < p + 40 → header_at b p ≡ Err UnexpectedEof
unfolding header_at
header_not b p h = grind (arith, nat_tests)

four : (b : List ℕ) (p q : ℕ) → q + 4 ≤ 40 → number (record_at b p) q 4 ≡ number b (p + q) 4
four b p q h = number_4-part b p 40 q h

two : (b : List ℕ) (p q : ℕ) → q + 2 ≤ 40 → number (record_at b p) q 2 ≡ number b (p + q) 2
two b p q h = number_2-part b p 40 q h

name : (b : List ℕ) (p : ℕ) → take 8 (record_at b p) ≡ take 8 (drop p b)
name b p = take-take 8 40 (drop p b) (omega arith)

fields_are : (b : List ℕ) (p : ℕ) → p + 40 ≤ length b → IsSectionHeader b p (header_of (record_at b p))
fields_are b p h = record {
  name = record { there = omega arith; value = name b p };
  virtual_size = record { there = omega arith; value = four b p 8 (omega arith) };
  virtual_address = record { there = omega arith; value = four b p 12 (omega arith) };
  size_of_raw_data = record { there = omega arith; value = four b p 16 (omega arith) };
  pointer_to_raw_data = record { there = omega arith; value = four b p 20 (omega arith) };
  pointer_to_relocations = record { there = omega arith; value = four b p 24 (omega arith) };
  pointer_to_line_numbers = record { there = omega arith; value = four b p 28 (omega arith) };
  number_of_relocations = record { there = omega arith; value = two b p 32 (omega arith) };
  number_of_line_numbers = record { there = omega arith; value = two b p 34 (omega arith) };
  characteristics = record { there = omega arith; value = four b p 36 (omega arith) };
}

pub header_is : (b : List ℕ) (p : ℕ) (h : ImageSectionHeader) → header_at b p ≡ Ok h → IsSectionHeader b p h
header_is b p h e = elim (cases_lt (length b) (p + 40)) [
  | inl short ↦ (let k = header_not b p short in absurd cc)
  | inr long ↦ (let k = header_there b p long in let is : header_of (record_at b p) ≡ h = cc in rw (← is) (fields_are b p long))
]

same_fields : (b : List ℕ) (p : ℕ) (h : ImageSectionHeader) → IsSectionHeader b p h → header_of (record_at b p) ≡ h
same_fields b p h is =
    let e0 : take 8 (record_at b p) ≡ h.name = name b p ∙ sym is.name.value in
    let e1 : number (record_at b p) 8 4 ≡ h.virtual_size = four b p 8 (omega arith) ∙ sym is.virtual_size.value in
    let e2 : number (record_at b p) 12 4 ≡ h.virtual_address = four b p 12 (omega arith) ∙ sym is.virtual_address.value in
    let e3 : number (record_at b p) 16 4 ≡ h.size_of_raw_data = four b p 16 (omega arith) ∙ sym is.size_of_raw_data.value in
    let e4 : number (record_at b p) 20 4 ≡ h.pointer_to_raw_data = four b p 20 (omega arith) ∙ sym is.pointer_to_raw_data.value in
    let e5 : number (record_at b p) 24 4 ≡ h.pointer_to_relocations = four b p 24 (omega arith) ∙ sym is.pointer_to_relocations.value in
    let e6 : number (record_at b p) 28 4 ≡ h.pointer_to_line_numbers = four b p 28 (omega arith) ∙ sym is.pointer_to_line_numbers.value in
    let e7 : number (record_at b p) 32 2 ≡ h.number_of_relocations = two b p 32 (omega arith) ∙ sym is.number_of_relocations.value in
    let e8 : number (record_at b p) 34 2 ≡ h.number_of_line_numbers = two b p 34 (omega arith) ∙ sym is.number_of_line_numbers.value in
    let e9 : number (record_at b p) 36 4 ≡ h.characteristics.0 = four b p 36 (omega arith) ∙ sym is.characteristics.value in
    rw (e0, e1, e2, e3, e4, e5, e6, e7, e8, e9) refl

pub is_header : (b : List ℕ) (p : ℕ) (h : ImageSectionHeader) → IsSectionHeader b p h → header_at b p ≡ Ok h
is_header b p h is = header_there b p (omega (arith, is.characteristics.there)) ∙ ap Ok (same_fields b p h is)
