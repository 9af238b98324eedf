-- Symbols as rows.
use Rattle.std.specs.Prelude.{◌≡◌, ◌⊎◌, if◌then◌else◌, ℕ, List, [], ◌∷◌, length, map, take, drop, Bool, false, IsTrue, Option, Some, None, is_some, Result, Ok, Err}
use Rattle.std.specs.List.{All}
use Rattle.pdb.specs.Error.{Error}
use Rattle.pdb.specs.Refusal.{number_of}
use Rattle.pdb.specs.Left.{Left, Follows, Ends}
use Rattle.pdb.specs.PdbInternalSectionOffset.{PdbInternalSectionOffset}
use Rattle.pdb.specs.SymbolList.{Entry}
use Rattle.pdb.specs.Forms.{kind_at, record_at}
use Rattle.pdb.specs.Scopes.{starts_of, ends_of}
use Rattle.pdb.specs.Data.{Data, ScopeEnd, ObjName, RegisterVariable, Constant, UserDefinedType, MultiRegisterVariable, DataItem, Public, Procedure, ThreadStorage, Compiler, UsingNamespace, ProcedureReference, DataReference, AnnotationReference, Trampoline, Export, Local, BuildInfo, InlineSite, InlineSiteEnd, ProcedureEnd, Label, Block, RegisterRelative, Thunk, SeparatedCode, name_of}
use Rattle.pdb.specs.ModuleStream.{ModuleBytes}
use Rattle.pdb_base.specs.declared.index.SymbolIndex.{SymbolIndex}
use Rattle.pdb_symbols.specs.Kinds.{is_in}
use Rattle.pdb_c.specs.declared.fields.Numbers.{Numbers}
use Rattle.pdb_c.specs.declared.symbols.PdbSymbol.{PdbSymbol}

-- the number of a form, from 1
abbrev pub form_number : Data → ℕ
form_number ScopeEnd = 1
form_number (ObjName signature name) = 2
form_number (RegisterVariable type_index register name) = 3
form_number (Constant managed type_index value name) = 4
form_number (UserDefinedType type_index name) = 5
form_number (MultiRegisterVariable type_index registers) = 6
form_number (DataItem global managed type_index offset name) = 7
form_number (Public code function managed msil offset name) = 8
form_number (Procedure s) = 9
form_number (ThreadStorage global type_index offset name) = 10
form_number (Compiler s) = 11
form_number (UsingNamespace name) = 12
form_number (ProcedureReference global sum_name symbol_index of_module name) = 13
form_number (DataReference sum_name symbol_index of_module name) = 14
form_number (AnnotationReference sum_name symbol_index of_module name) = 15
form_number (Trampoline s) = 16
form_number (Export ordinal flags name) = 17
form_number (Local type_index flags name) = 18
form_number (BuildInfo s) = 19
form_number (InlineSite s) = 20
form_number InlineSiteEnd = 21
form_number ProcedureEnd = 22
form_number (Label offset flags name) = 23
form_number (Block parent end len offset name) = 24
form_number (RegisterRelative offset type_index register name) = 25
form_number (Thunk s) = 26
form_number (SeparatedCode s) = 27

-- the place in the image, where one is told
abbrev pub place_of : Data → Option PdbInternalSectionOffset
place_of (DataItem global managed type_index offset name) = Some offset
place_of (Public code function managed msil offset name) = Some offset
place_of (Procedure s) = Some s.offset
place_of (ThreadStorage global type_index offset name) = Some offset
place_of (Label offset flags name) = Some offset
place_of (Block parent end len offset name) = Some offset
place_of (Thunk s) = Some s.offset
place_of (SeparatedCode s) = Some s.offset
place_of d = None

-- how many bytes of code it is, 0 where that isn't told
abbrev pub code_size_of : Data → ℕ
code_size_of (Procedure s) = s.len
code_size_of (Block parent end len offset name) = len
code_size_of (Thunk s) = s.len
code_size_of (SeparatedCode s) = s.len
code_size_of d = 0

-- the type's index, 0 where there is none
abbrev pub type_index_of : Data → ℕ
type_index_of (RegisterVariable type_index register name) = type_index.0
type_index_of (Constant managed type_index value name) = type_index.0
type_index_of (UserDefinedType type_index name) = type_index.0
type_index_of (MultiRegisterVariable type_index registers) = type_index.0
type_index_of (DataItem global managed type_index offset name) = type_index.0
type_index_of (Procedure s) = s.type_index.0
type_index_of (ThreadStorage global type_index offset name) = type_index.0
type_index_of (Local type_index flags name) = type_index.0
type_index_of (RegisterRelative offset type_index register name) = type_index.0
type_index_of d = 0

abbrev pub index_or_none : Option SymbolIndex → ℕ
index_or_none None = 0
index_or_none (Some i) = i.0

-- the symbol in whose scope it stands, and the one that ends its own; 0 where there is none
abbrev pub parent_of : Data → ℕ
parent_of (Procedure s) = index_or_none s.parent
parent_of (InlineSite s) = index_or_none s.parent
parent_of (Block parent end len offset name) = parent.0
parent_of (Thunk s) = index_or_none s.parent
parent_of (SeparatedCode s) = s.parent.0
parent_of d = 0

abbrev pub end_of : Data → ℕ
end_of (Procedure s) = s.end.0
end_of (InlineSite s) = s.end.0
end_of (Block parent end len offset name) = end.0
end_of (Thunk s) = s.end.0
end_of (SeparatedCode s) = s.end.0
end_of d = 0

-- of an inlined call: the function's id
abbrev pub inlinee_of : Data → ℕ
inlinee_of (InlineSite s) = s.inlinee.0
inlinee_of d = 0

-- all that is told in numbers
abbrev pub numbers_of : Data → Numbers
numbers_of d = record { place = place_of d; code_size = code_size_of d; type_index = type_index_of d; parent = parent_of d; end = end_of d; inlinee = inlinee_of d }

-- the annotations of an inlined call; none of another record
abbrev pub annotations_of : Data → List ℕ
annotations_of (InlineSite s) = s.annotations
annotations_of d = []

-- 1 where it holds
abbrev pub one_if : Bool → ℕ
one_if holds = if holds then 1 else 0

-- ---- rows

-- a symbol's place and bytes
abbrev pub symbol_entry : PdbSymbol → Entry
symbol_entry y = record { index = y.index; bytes = y.record_bytes.now }

-- 1 where there is one, and else 0
abbrev pub flag_of : {A : Type 0} → Option A → ℕ
flag_of o = one_if (is_some o)

-- a name's bytes, and none where there is no name
abbrev pub bytes_or_none : Option (List ℕ) → List ℕ
bytes_or_none None = []
bytes_or_none (Some name) = name

-- the offset and the section of a place in the image, 0 where there is none
abbrev pub offset_or_zero : Option PdbInternalSectionOffset → ℕ
offset_or_zero None = 0
offset_or_zero (Some place) = place.offset

abbrev pub section_or_zero : Option PdbInternalSectionOffset → ℕ
section_or_zero None = 0
section_or_zero (Some place) = place.section

-- a row has this form's number (0 where the record has an error), and what the record has or doesn't have
pub record Holds (y : PdbSymbol) (number : ℕ) (its_name : Option (List ℕ)) (numbers : Numbers) (bytes : List ℕ) : Type 0 where
  pub form : y.form ≡ number
  pub has_name : y.has_name ≡ flag_of its_name
  pub name : y.name.now ≡ bytes_or_none its_name
  pub has_place : y.has_place ≡ flag_of numbers.place
  pub offset : y.offset ≡ offset_or_zero numbers.place
  pub section : y.section ≡ section_or_zero numbers.place
  pub code_size : y.code_size ≡ numbers.code_size
  pub type_index : y.type_index ≡ numbers.type_index
  pub parent : y.parent ≡ numbers.parent
  pub end : y.end ≡ numbers.end
  pub inlinee : y.inlinee ≡ numbers.inlinee
  pub annotations : y.annotations.now ≡ bytes

-- what a row says of a record
abbrev pub SaysData : PdbSymbol → Data → Type 0
SaysData y d = Holds y (form_number d) (name_of d) (numbers_of d) (annotations_of d)

-- no number is present
abbrev pub no_numbers : Numbers
no_numbers = record { place = None; code_size = 0; type_index = 0; parent = 0; end = 0; inlinee = 0 }

-- a row says nothing of a record that has an error: each field is 0 or empty
abbrev pub SaysNothing : PdbSymbol → Type 0
SaysNothing y = Holds y 0 None no_numbers []

-- what a row says where its record is read so, or has an error
abbrev pub SaysRecord : PdbSymbol → Result Data Error → Type 0
SaysRecord y (Ok d) = (y.refused ≡ 0) × SaysData y d
SaysRecord y (Err e) = (y.refused ≡ number_of e) × SaysNothing y

-- a row says what its record's bytes say
pub record SaysItself (y : PdbSymbol) : Type 0 where
  pub kind : y.kind ≡ kind_at y.record_bytes.now
  pub starts : y.starts_scope ≡ one_if (starts_of (kind_at y.record_bytes.now))
  pub ends : y.ends_scope ≡ one_if (ends_of (kind_at y.record_bytes.now))
  pub says : SaysRecord y (record_at y.record_bytes.now)

-- ---- lists

-- kinds of variables in several registers: records of no other kind take memory
abbrev pub takes_memory : ℕ → Bool
takes_memory kind = is_in (0x110a ∷ 0x1005 ∷ 0x1117 ∷ 0x1014 ∷ []) kind

-- whether the first of these symbols takes memory
abbrev pub first_takes_memory : List Entry → Bool
first_takes_memory [] = false
first_takes_memory (s ∷ others) = takes_memory (kind_at s.bytes)

-- the code of a call that gave some first symbols of a list, of which `new` is left: 0 where they fill the buffer; 30 at the end; the number of the error behind them, which ends the list; or 22 at a next symbol that takes memory
abbrev pub Gave : ℕ → ℕ → List Entry → Left Entry → Left Entry → Type 0
Gave code room given old new =
    ((code ≡ 0) × (length given ≡ room) × Follows old given new)
    ⊎ (((code ≡ 30) × Ends old given None new)
    ⊎ (((e : Error) × (code ≡ number_of e) × Ends old given (Some e) new)
    ⊎ ((code ≡ 22) × Follows old given new × IsTrue (first_takes_memory new.items))))

-- a call gave symbols: so many rows of the buffer tell them, each says what its bytes say, and the other rows are as they were
pub record Given (code : ℕ) (before after : List PdbSymbol) (count : ℕ) (old new : Left Entry) : Type 0 where
  pub gave : Gave code (length before) (map symbol_entry (take count after)) old new
  pub says : All SaysItself (take count after)
  pub others : drop count after ≡ drop count before

-- a module's stream of which the symbols alone are read
abbrev pub symbols_alone : List ℕ → ℕ → ModuleBytes
symbols_alone b size = record { bytes = b; symbols_size = size; lines_size = 0; c13_lines_size = 0 }
