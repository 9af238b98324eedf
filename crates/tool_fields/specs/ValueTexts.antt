-- How the values of fields are told.
use Rattle.std.specs.Prelude.{ℕ, Bool, true, false, List, [], ◌∷◌, ◌++◌, Option, Some, None, codes, flat_map, ◌==◌, if◌then◌else◌}
use Rattle.std.specs.Fmt.{decimal, signed_decimal}
use Rattle.std.specs.Int.{cast_signed, w8}
use Rattle.pdb_base.specs.declared.index.Register.{Register}
use Rattle.pdb_base.specs.declared.index.SymbolIndex.{SymbolIndex}
use Rattle.pdb_base.specs.declared.variant.Variant.{Variant}
use Rattle.pdb_base.specs.declared.variant.Variant.TheVariants.{U8, U16, U32, U64, I8, I16, I32, I64}
use Rattle.pdb_symbols.specs.declared.compilers.CompilerVersion.{CompilerVersion}
use Rattle.pdb_symbols.specs.declared.thunks.TrampolineType.{TrampolineType}
use Rattle.pdb_symbols.specs.declared.thunks.TrampolineType.TheVariants as trampoline
use Rattle.pdb_symbols.specs.Data.{ThunkDoes}
use Rattle.pdb_symbols.specs.Data.ThunkDoes.{NoType, Adjustor, VCall, PCode, Load, Unknown}
use Rattle.pdb_records.specs.CompilerNames.{language_rows, processor_name_of}
use Rattle.pdb_records.specs.Machines.{register_name_of}
use Rattle.pdb_records.specs.NameRows.{name_in}
use Rattle.pdb_records.specs.declared.machine.Machine.{Machine}
use Rattle.pdb_text.specs.Digits.{hex}
use Rattle.tool_fields.specs.KindNames.{kind_name}

-- a kind's name, or its number in four hex digits where it has none
abbrev pub name_or_number : ℕ → Option (List ℕ) → List ℕ
name_or_number kind None = hex 4 kind
name_or_number kind (Some name) = name

abbrev pub kind_text : ℕ → List ℕ
kind_text kind = name_or_number kind (kind_name kind)

-- the name of a processor's number, or the number in four hex digits
abbrev pub processor_text : ℕ → List ℕ
processor_text n = name_or_number n (processor_name_of n)

-- the name of a language's number, or the number in two hex digits
abbrev pub name_or_byte : ℕ → Option (List ℕ) → List ℕ
name_or_byte n None = hex 2 n
name_or_byte n (Some name) = name

abbrev pub language_text : ℕ → List ℕ
language_text n = name_or_byte n (name_in language_rows n)

abbrev pub bool_text : Bool → List ℕ
bool_text true = codes "true"
bool_text false = codes "false"

-- a symbol's index, `-` where there is none
abbrev pub optional_index_text : Option SymbolIndex → List ℕ
optional_index_text None = codes "-"
optional_index_text (Some i) = hex 8 i.0

-- a byte stands behind the prefix LF_CHAR alone, and has a sign
abbrev pub variant_text : Variant → List ℕ
variant_text (U8 n) = signed_decimal (cast_signed w8 n)
variant_text (U16 n) = decimal n
variant_text (U32 n) = decimal n
variant_text (U64 n) = decimal n
variant_text (I8 z) = signed_decimal z
variant_text (I16 z) = signed_decimal z
variant_text (I32 z) = signed_decimal z
variant_text (I64 z) = signed_decimal z

-- the number of a quick fix behind a point, where there is one
abbrev pub qfe_text : Option ℕ → List ℕ
qfe_text None = []
qfe_text (Some n) = codes "." ++ decimal n

abbrev pub version_text : CompilerVersion → List ℕ
version_text v = decimal v.major ++ codes "." ++ decimal v.minor ++ codes "." ++ decimal v.build ++ qfe_text v.qfe

abbrev pub trampoline_text : TrampolineType → List ℕ
trampoline_text trampoline.Incremental = codes "Incremental"
trampoline_text trampoline.BranchIsland = codes "BranchIsland"
trampoline_text trampoline.Unknown = codes "Unknown"

-- what a thunk does
abbrev pub thunk_text : ThunkDoes → List ℕ
thunk_text NoType = codes "no_type"
thunk_text (Adjustor delta target) = codes "adjustor:" ++ decimal delta ++ codes ":" ++ target
thunk_text (VCall offset) = codes "v_call:" ++ decimal offset
thunk_text PCode = codes "p_code"
thunk_text Load = codes "load"
thunk_text (Unknown ordinal) = codes "unknown:" ++ decimal ordinal

-- the name of a register's number on a machine
abbrev pub register_name_on : Option Machine → ℕ → Option (List ℕ)
register_name_on None n = None
register_name_on (Some machine) n = register_name_of machine n

-- a register by its name on a machine; four hex digits where it has none, or no machine is known
abbrev pub register_on : Option Machine → Register → List ℕ
register_on machine r = name_or_number r.0 (register_name_on machine r.0)

-- a register, and the name of what is in it
abbrev pub register_text : Option Machine → Register × List ℕ → List ℕ
register_text machine r = register_on machine r.0 ++ codes ":" ++ r.1

-- the registers, each behind a comma
abbrev pub more_registers : Option Machine → List (Register × List ℕ) → List ℕ
more_registers machine [] = []
more_registers machine (r ∷ rs) = codes "," ++ (register_text machine r ++ more_registers machine rs)

-- the registers joined by commas, `-` where there is none
abbrev pub registers_text : Option Machine → List (Register × List ℕ) → List ℕ
registers_text machine [] = codes "-"
registers_text machine (r ∷ rs) = register_text machine r ++ more_registers machine rs

-- bytes in two hex digits each, `-` where there is none
abbrev pub bytes_text : List ℕ → List ℕ
bytes_text [] = codes "-"
bytes_text (b ∷ bs) = flat_map (hex 2) (b ∷ bs)

-- where the annotations begin in the record of an inlined call: behind its kind and three indices, and in kind 0x115d a number
abbrev pub annotations_place : ℕ → ℕ
annotations_place kind = if kind == 0x115d then 18 else 14
