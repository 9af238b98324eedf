-- Parts that further records have, and groups of parts that are read together.
use Rattle.std.specs.Prelude.{ℕ, zero, suc, ℤ, ◌+◌, ◌-◌, ◌*◌, ◌≤◌, ◌<◌, ◌⊎◌, List, [], ◌∷◌, length, Option, Result, Ok, nat_le, if◌then◌else◌}
use Rattle.std.specs.List.{sum_by}
use Rattle.std.specs.Int.{w64}
use Rattle.pdb_base.specs.declared.error.Error.{Error}
use Rattle.pdb_base.specs.declared.index.PdbInternalSectionOffset.{PdbInternalSectionOffset}
use Rattle.pdb_base.specs.declared.index.Register.{Register}
use Rattle.pdb_base.specs.declared.index.SymbolIndex.{SymbolIndex}
use Rattle.pdb_base.specs.declared.index.TypeIndex.{TypeIndex}
use Rattle.pdb_base.specs.Refusal.{◌>>=◌}
use Rattle.pdb_base.specs.Fields.{signed_at, cstring_at}
use Rattle.pdb_base.specs.Places.{IsSigned, IsCString}
use Rattle.pdb_base.specs.Layouts.{Part, ◌▷◌, behind, together, together_at, times, list_at, number, number_as, signed, slice, rest, cstring}
use Rattle.pdb_symbols.specs.declared.flags.ProcedureFlags.{ProcedureFlags}
use Rattle.pdb_symbols.specs.Groups.{type_index, symbol_index, optional_index, register, procedure_flags}
use Rattle.pdb_symbols.specs.Parts.{offset}
use Rattle.pdb_records.specs.declared.flags.VariableFlags.{VariableFlags}
use Rattle.pdb_records.specs.RecordFlags.{variable_flags_of}

-- a signed number of eight bytes
abbrev pub signed_wide : Part ℤ
signed_wide = record { at = λ kind b i. signed_at b i w64; Stands = λ kind b i x. IsSigned b i w64 x; width = λ kind b i x. 8 }

-- ---- names up to the first empty one

-- a name is followed by others, an empty one by nothing
abbrev pub further : (List ℕ → Result (List (List ℕ)) Error) → List ℕ → Result (List (List ℕ)) Error
further read [] = Ok []
further read (c ∷ s) = read (c ∷ s) >>= (λ names. Ok ((c ∷ s) ∷ names))

-- the names from p on, up to the first empty one, which is none of them, or to the end; there are no more than n bytes
abbrev pub names_within : ℕ → List ℕ → ℕ → Result (List (List ℕ)) Error
names_within zero b p = Ok []
names_within (suc n) b p = if nat_le (length b) p then Ok [] else cstring_at b p >>= further (λ s. names_within n b (p + (length s + 1)))

unfoldable pub names_at : List ℕ → ℕ → Result (List (List ℕ)) Error
names_at b p = names_within (length b - p) b p

-- how many names there are
abbrev pub names_counted : List ℕ → ℕ → Result ℕ Error
names_counted b p = names_at b p >>= (λ names. Ok (length names))

-- each name stands behind the one before it and isn't empty; behind the last one stands an empty name, or nothing
abbrev pub AreNames : List ℕ → ℕ → List (List ℕ) → Type 0
AreNames b p [] = (length b ≤ p) ⊎ IsCString b p []
AreNames b p (s ∷ names) = IsCString b p s × (0 < length s) × AreNames b (p + (length s + 1)) names

-- the bytes of names, each with its zero byte
abbrev pub names_width : List (List ℕ) → ℕ
names_width names = sum_by (λ s. length s + 1) names

abbrev pub names : Part (List (List ℕ))
names = record { at = λ kind b i. names_at b i; Stands = λ kind b i x. AreNames b i x; width = λ kind b i x. names_width x }

-- ---- groups

-- an address range, as its start and its length
abbrev pub range : Part (PdbInternalSectionOffset × ℕ)
range = together (offset ▷ number 2)

-- an address range, and the bytes of its gaps, which go to the record's end
abbrev pub ranged : Part ((PdbInternalSectionOffset × ℕ) × List ℕ)
ranged = together (range ▷ rest)

-- a register, and a word that says more
abbrev pub register_and_word : Part (Register × ℕ)
register_and_word = together (register ▷ number 2)

-- the sizes of a frame
abbrev pub frame_sizes : Part (ℕ × (ℕ × (ℕ × ℕ)))
frame_sizes = together (number 4 ▷ number 4 ▷ number 4 ▷ number 4)

abbrev pub variable_flags : Part VariableFlags
variable_flags = number_as 2 variable_flags_of

-- a type, where the name of its module's file stands, and flags
abbrev pub static_head : Part (TypeIndex × (ℕ × VariableFlags))
static_head = together (type_index ▷ number 4 ▷ variable_flags)

-- where a call stands, a number of two bytes, and a type
abbrev pub site_of_type : Part (PdbInternalSectionOffset × (ℕ × TypeIndex))
site_of_type = together (offset ▷ number 2 ▷ type_index)

-- a count, and the bytes of so many numbers
abbrev pub counted_ids : Part (ℕ × List ℕ)
counted_ids = together (behind (number 4) (λ count. slice (4 * count)))

-- where a jump table's base stands, and what its entries are
abbrev pub table_base : Part (PdbInternalSectionOffset × ℕ)
table_base = together (offset ▷ number 2)

-- two numbers, and a place
abbrev pub group_place : Part (ℕ × (ℕ × PdbInternalSectionOffset))
group_place = together (number 4 ▷ number 4 ▷ offset)

-- a section, its alignment, and a byte that is unused
abbrev pub section_head : Part (ℕ × (ℕ × ℕ))
section_head = together (number 2 ▷ number 1 ▷ number 1)

-- a section's address, length and characteristics
abbrev pub section_span : Part (ℕ × (ℕ × ℕ))
section_span = together (number 4 ▷ number 4 ▷ number 4)

-- a count of two bytes, and so many names
abbrev pub counted_names : Part (ℕ × List (List ℕ))
counted_names = together (behind (number 2) (λ count. times count cstring))

-- the names alone
abbrev pub counted_names_at : List ℕ → ℕ → Result (List (List ℕ)) Error
counted_names_at b p = together_at (behind (number 2) (λ count. times count cstring)) b p >>= (λ x. Ok x.1)

-- whether so many names are there
abbrev pub names_passed : ℕ → List ℕ → ℕ → Result (Unit {0}) Error
names_passed n b p = list_at cstring n 0 b p >>= (λ names. Ok tt)

-- a procedure's token, its place, its flags, and the register of what it returns
abbrev pub managed : Part (ℕ × (PdbInternalSectionOffset × (ProcedureFlags × Register)))
managed = together (number 4 ▷ offset ▷ procedure_flags ▷ register)

-- a type, flags, a slot, and the offset in it
abbrev pub shared_head : Part (TypeIndex × (VariableFlags × (ℕ × ℕ)))
shared_head = together (type_index ▷ variable_flags ▷ number 2 ▷ number 2)

-- the symbol around a scope, the end of the scope, and its length
abbrev pub with_span : Part (Option SymbolIndex × (SymbolIndex × ℕ))
with_span = together (optional_index ▷ symbol_index ▷ number 4)

-- where a variable begins to live, and its flags
abbrev pub attributes : Part (PdbInternalSectionOffset × VariableFlags)
attributes = together (offset ▷ variable_flags)

-- an offset from a register's value, a type, and the register
abbrev pub place_by_register : Part (ℤ × (TypeIndex × Register))
place_by_register = together (signed ▷ type_index ▷ register)
