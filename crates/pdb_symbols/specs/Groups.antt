-- Parts of some forms alone, and groups of parts that are read together.
use Rattle.std.specs.Prelude.{ℕ, List, [], ◌∷◌, Option, Some, None, ◌==◌, if◌then◌else◌}
use Rattle.pdb_base.specs.declared.index.IdIndex.{IdIndex}
use Rattle.pdb_base.specs.declared.index.PdbInternalSectionOffset.{PdbInternalSectionOffset}
use Rattle.pdb_base.specs.declared.index.Register.{Register}
use Rattle.pdb_base.specs.declared.index.SymbolIndex.{SymbolIndex}
use Rattle.pdb_base.specs.declared.index.TypeIndex.{TypeIndex}
use Rattle.pdb_base.specs.declared.variant.Variant.{Variant}
use Rattle.pdb_symbols.specs.declared.compilers.CompilerVersion.{CompilerVersion}
use Rattle.pdb_symbols.specs.declared.flags.CompileFlags.{CompileFlags}
use Rattle.pdb_symbols.specs.declared.flags.ExportSymbolFlags.{ExportSymbolFlags}
use Rattle.pdb_symbols.specs.declared.flags.LocalVariableFlags.{LocalVariableFlags}
use Rattle.pdb_symbols.specs.declared.flags.ProcedureFlags.{ProcedureFlags}
use Rattle.pdb_symbols.specs.declared.flags.SeparatedCodeFlags.{SeparatedCodeFlags}
use Rattle.pdb_symbols.specs.declared.language.SourceLanguage.{SourceLanguage}
use Rattle.pdb_symbols.specs.declared.processor.CPUType.{CPUType}
use Rattle.pdb_symbols.specs.declared.thunks.TrampolineType.{TrampolineType}
use Rattle.pdb_symbols.specs.declared.thunks.TrampolineType.TheVariants as trampoline
use Rattle.pdb_symbols.specs.Data.{ThunkDoes}
use Rattle.pdb_symbols.specs.Data.ThunkDoes.{NoType, Adjustor, VCall, PCode, Load, Unknown}
use Rattle.pdb_symbols.specs.Flags.{procedure_flags_of, compile_flags_of, local_flags_of, export_flags_of, separated_code_flags_of}
use Rattle.pdb_symbols.specs.Kinds.{is_in}
use Rattle.pdb_symbols.specs.Languages.{language_of}
use Rattle.pdb_base.specs.Layouts.{Part, ◌▷◌, by_kind, given, saying, together, grouped, cstring, number, number_as, variant}
use Rattle.pdb_symbols.specs.Parts.{offset, name}
use Rattle.pdb_symbols.specs.Processors.{cpu_of}

-- ---- indices

-- a symbol's index, 0 for none
abbrev pub some_index : ℕ → Option SymbolIndex
some_index n = if n == 0 then None else Some (record { 0 = n })

abbrev pub symbol_index_of : ℕ → SymbolIndex
symbol_index_of n = record { 0 = n }

abbrev pub type_index_of : ℕ → TypeIndex
type_index_of n = record { 0 = n }

abbrev pub id_index_of : ℕ → IdIndex
id_index_of n = record { 0 = n }

abbrev pub register_of : ℕ → Register
register_of n = record { 0 = n }

abbrev pub symbol_index : Part SymbolIndex
symbol_index = number_as 4 symbol_index_of

abbrev pub optional_index : Part (Option SymbolIndex)
optional_index = number_as 4 some_index

abbrev pub type_index : Part TypeIndex
type_index = number_as 4 type_index_of

abbrev pub id_index : Part IdIndex
id_index = number_as 4 id_index_of

abbrev pub register : Part Register
register = number_as 2 register_of

-- ---- data and types

-- a type and a value
abbrev pub typed_value : Part (TypeIndex × Variant)
typed_value = together (type_index ▷ variant)

abbrev pub local_flags : Part LocalVariableFlags
local_flags = number_as 2 local_flags_of

-- how many registers there are: a number of two bytes in the newer kinds, of one in the others
abbrev pub register_count : Part ℕ
register_count = by_kind (λ kind. number (if is_in (0x1117 ∷ 0x1014 ∷ []) kind then 2 else 1))

-- a register and its name
abbrev pub named_register : Part (Register × List ℕ)
named_register = register ▷ name

-- ---- procedures and scopes

abbrev pub procedure_flags : Part ProcedureFlags
procedure_flags = number_as 1 procedure_flags_of

-- the symbol around this one, the end of its scope, and the next one
abbrev pub scope : Part (Option SymbolIndex × (SymbolIndex × Option SymbolIndex))
scope = together (optional_index ▷ symbol_index ▷ optional_index)

-- a procedure's length, and where its body begins and ends
abbrev pub body : Part (ℕ × (ℕ × ℕ))
body = together (number 4 ▷ number 4 ▷ number 4)

-- a procedure's type, where it stands, and its flags
abbrev pub typed : Part (TypeIndex × (PdbInternalSectionOffset × ProcedureFlags))
typed = together (type_index ▷ offset ▷ procedure_flags)

-- the symbol around this one, the end of its scope, and a length
abbrev pub span : Part (SymbolIndex × (SymbolIndex × ℕ))
span = together (symbol_index ▷ symbol_index ▷ number 4)

-- the symbol around this one, the end of its scope, and what is inlined
abbrev pub site : Part (Option SymbolIndex × (SymbolIndex × IdIndex))
site = together (optional_index ▷ symbol_index ▷ id_index)

-- how often a site was run, in kind 0x115d alone
abbrev pub invocation_count : Part (Option ℕ)
invocation_count = by_kind (λ kind. given (kind == 0x115d) (number 4))

abbrev pub separated_code_flags : Part SeparatedCodeFlags
separated_code_flags = number_as 4 separated_code_flags_of

-- two offsets, and behind them the section of each
abbrev pub two_places : Part (ℕ × (ℕ × (ℕ × ℕ)))
two_places = together (number 4 ▷ number 4 ▷ number 2 ▷ number 2)

-- ---- thunks

-- a place, a length and the ordinal of what a thunk does
abbrev pub thunk_place : Part (PdbInternalSectionOffset × (ℕ × ℕ))
thunk_place = together (offset ▷ number 2 ▷ number 1)

abbrev pub thunk_head : Part ((Option SymbolIndex × (SymbolIndex × Option SymbolIndex)) × (PdbInternalSectionOffset × (ℕ × ℕ)))
thunk_head = together (scope ▷ thunk_place)

-- what a thunk of an ordinal does, by what stands behind its name
abbrev pub does_of : ℕ → Option (ℕ × List ℕ) × Option ℕ → ThunkDoes
does_of ordinal (Some a, v) = Adjustor a.0 a.1
does_of ordinal (None, Some v) = VCall v
does_of ordinal (None, None) =
    if ordinal == 0 then NoType
    else if ordinal == 3 then PCode
    else if ordinal == 4 then Load
    else Unknown ordinal

unfoldable pub thunk_tail : ℕ → Part ThunkDoes
thunk_tail ordinal = saying (does_of ordinal) (given (ordinal == 1) (number 2 ▷ cstring) ▷ given (ordinal == 2) (number 2))

abbrev pub thunk_does : ℕ → Part ThunkDoes
thunk_does ordinal = together (thunk_tail ordinal)

-- what a trampoline of a number is for
abbrev pub trampoline_of : ℕ → TrampolineType
trampoline_of n =
    if n == 0 then trampoline.Incremental
    else if n == 1 then trampoline.BranchIsland
    else trampoline.Unknown

abbrev pub trampoline_type : Part TrampolineType
trampoline_type = number_as 2 trampoline_of

-- ---- modules and compilers

abbrev pub export_flags : Part ExportSymbolFlags
export_flags = number_as 2 export_flags_of

-- a language, flags, a byte that is unused, a processor
abbrev pub compiled_for : Part (SourceLanguage × (CompileFlags × (ℕ × CPUType)))
compiled_for = grouped (number_as 1 language_of ▷ by_kind (λ kind. number_as 2 (compile_flags_of kind)) ▷ number 1 ▷ number_as 2 cpu_of)

abbrev pub three_numbers : Part (ℕ × (ℕ × ℕ))
three_numbers = together (number 2 ▷ number 2 ▷ number 2)

-- the number of a quick fix, in kind 0x113c alone
abbrev pub qfe : Part (Option ℕ)
qfe = by_kind (λ kind. given (kind == 0x113c) (number 2))

-- major, minor, build, and the number of a quick fix
abbrev pub version : Part ((ℕ × (ℕ × ℕ)) × Option ℕ)
version = grouped (three_numbers ▷ qfe)

abbrev pub versions : Part (((ℕ × (ℕ × ℕ)) × Option ℕ) × ((ℕ × (ℕ × ℕ)) × Option ℕ))
versions = grouped (version ▷ version)

-- a version's parts
abbrev pub version_parts : CompilerVersion → (ℕ × (ℕ × ℕ)) × Option ℕ
version_parts v = ((v.major, (v.minor, v.build)), v.qfe)
