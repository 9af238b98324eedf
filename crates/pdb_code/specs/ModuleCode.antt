-- What stands at a place of a module's code: the function, the line, the inlined calls.
use Rattle.std.specs.Prelude.{ℕ, Bool, ◌&&◌, ◌==◌, ◌-◌, nat_lt, if◌then◌else◌, List, [], ◌∷◌, Option, Some, None, Result, Ok, find, filter_map}
use Rattle.std.specs.Option.{is_some, option_map, option_or, unwrap_or}
use Rattle.pdb.specs.Error.{Error}
use Rattle.pdb.specs.PdbInternalSectionOffset.{PdbInternalSectionOffset}
use Rattle.pdb.specs.Data.{Data}
use Rattle.pdb.specs.Data.Data.{Procedure, Thunk, SeparatedCode, InlineSite, Trampoline}
use Rattle.pdb.specs.Forms.{kind_at, record_at}
use Rattle.pdb.specs.SymbolList.{Entry}
use Rattle.pdb.specs.ModuleStream.{ModuleBytes, symbols_of, line_program_of, inlinees_of}
use Rattle.pdb.specs.Inlinees.{InlineeEntry, inlinee_with}
use Rattle.pdb.specs.Inlined.{lines_of_site}
use Rattle.pdb.specs.LineCover.{line_covers}
use Rattle.pdb.specs.LineInfo.{LineInfo}
use Rattle.pdb.specs.LineProgram.{ProgramOf}
use Rattle.pdb.specs.LineOrder.{lines_for}
use Rattle.pdb_symbols.specs.Kinds.{is_in}
use Rattle.pdb_symbols.specs.declared.thunks.TrampolineType.{TrampolineType}
use Rattle.pdb_records.specs.RecordReading.{further_at}
use Rattle.pdb_records.specs.RecordSays.{Says}
use Rattle.pdb_records.specs.RecordSays.Says.{ManagedProcedure}
use Rattle.pdb_places.specs.AsIfEmpty.{items_of, if_read}
use Rattle.pdb_places.specs.Pieces.{Code, begins_at, code_covers, index_of}

-- ---- parts of a module, each as if empty where it is refused; of one with a fault the items before it

unfoldable pub symbols_in : ModuleBytes → List Entry
symbols_in m = items_of (symbols_of m)

unfoldable pub inlinees_in : ModuleBytes → List InlineeEntry
inlinees_in m = items_of (inlinees_of m)

unfoldable pub program_in : ModuleBytes → Option ProgramOf
program_in m = if_read (line_program_of m)

-- ---- pieces of code

-- the role of a record in the code
pub data Role : Type 0 where
  at_procedure : (place : PdbInternalSectionOffset) (length end : ℕ) → Role
  at_other : (place : PdbInternalSectionOffset) (length end : ℕ) → Role
  at_site : (id : ℕ) (annotations : List ℕ) → Role
  passed : Role

abbrev pub role : Result Data Error → Role
role (Ok (Procedure s)) = at_procedure s.offset s.len s.end.0
role (Ok (Thunk s)) = at_other s.offset s.len s.end.0
role (Ok (SeparatedCode s)) = at_other s.offset s.len s.end.0
role (Ok (InlineSite s)) = at_site s.inlinee.0 s.annotations
role r = passed

abbrev pub procedure_of_role : ℕ → Role → Option Code
procedure_of_role index (at_procedure place length end) = Some (record { index = index; place = place; length = length; end = end })
procedure_of_role index h = None

abbrev pub other_of_role : ℕ → Role → Option Code
other_of_role index (at_other place length end) = Some (record { index = index; place = place; length = length; end = end })
other_of_role index h = None

-- the code of a symbol that parses as Procedure; as Thunk or SeparatedCode
abbrev pub procedure_of : Entry → Option Code
procedure_of s = procedure_of_role s.index (role (record_at s.bytes))

abbrev pub other_of : Entry → Option Code
other_of s = other_of_role s.index (role (record_at s.bytes))

-- the code of a symbol that reads as ManagedProcedure, whose kinds are S_GMANPROC, S_LMANPROC and their older forms
abbrev pub is_managed : ℕ → Bool
is_managed kind = is_in (0x112a ∷ 0x112b ∷ 0x101a ∷ 0x101b ∷ []) kind

abbrev pub managed_said : ℕ → Result Says Error → Option Code
managed_said index (Ok (ManagedProcedure s)) = Some (record { index = index; place = s.offset; length = s.len; end = s.end.0 })
managed_said index r = None

abbrev pub managed_of : Entry → Option Code
managed_of s = if is_managed (kind_at s.bytes) then managed_said s.index (further_at s.bytes) else None

-- the code of a symbol that parses as Trampoline, whose kind is S_TRAMPOLINE; it has no scope to end
abbrev pub is_trampoline : ℕ → Bool
is_trampoline kind = kind == 0x112c

abbrev pub trampoline_said : ℕ → Result Data Error → Option Code
trampoline_said index (Ok (Trampoline s)) = Some (record { index = index; place = s.thunk; length = s.size; end = index })
trampoline_said index r = None

abbrev pub trampoline_of : Entry → Option Code
trampoline_of s = if is_trampoline (kind_at s.bytes) then trampoline_said s.index (record_at s.bytes) else None

-- ---- the function at a place

-- the procedures of a module; its thunks and separated code; its managed procedures; its trampolines
abbrev pub procedures_in : ModuleBytes → List Code
procedures_in m = filter_map procedure_of (symbols_in m)

abbrev pub others_in : ModuleBytes → List Code
others_in m = filter_map other_of (symbols_in m)

abbrev pub managed_in : ModuleBytes → List Code
managed_in m = filter_map managed_of (symbols_in m)

abbrev pub trampolines_in : ModuleBytes → List Code
trampolines_in m = filter_map trampoline_of (symbols_in m)

-- the first procedure that covers the place; the first thunk or separated code; the first managed procedure; the first trampoline
abbrev pub procedure_at : PdbInternalSectionOffset → ModuleBytes → Option Code
procedure_at q m = find (code_covers q) (procedures_in m)

abbrev pub other_at : PdbInternalSectionOffset → ModuleBytes → Option Code
other_at q m = find (code_covers q) (others_in m)

abbrev pub managed_at : PdbInternalSectionOffset → ModuleBytes → Option Code
managed_at q m = find (code_covers q) (managed_in m)

abbrev pub trampoline_at : PdbInternalSectionOffset → ModuleBytes → Option Code
trampoline_at q m = find (code_covers q) (trampolines_in m)

-- the index of the function's symbol; a trampoline is told apart, by what it leads to
abbrev pub function_at : PdbInternalSectionOffset → ModuleBytes → Option ℕ
function_at q m = option_or (option_map index_of (procedure_at q m)) (option_or (option_map index_of (other_at q m)) (option_map index_of (managed_at q m)))

-- a procedure begins at the place
abbrev pub begins : PdbInternalSectionOffset → List Code → Bool
begins q cs = is_some (find (begins_at q) cs)

-- ---- the line at a place

-- the first record that has a length and covers the place
abbrev pub first_line : PdbInternalSectionOffset → List LineInfo → Option LineInfo
first_line q rs = find (line_covers q) rs

abbrev pub line_in : PdbInternalSectionOffset → Option ProgramOf → Option LineInfo
line_in q None = None
line_in q (Some p) = first_line q (lines_for q p.subsections).items

abbrev pub line_at : PdbInternalSectionOffset → ModuleBytes → Option LineInfo
line_at q m = line_in q (program_in m)

-- ---- inlined calls at a place

-- a call: the id of its function, and the record of its line
pub record Call : Type 0 where
  pub id : ℕ
  pub line : LineInfo

abbrev pub call_of : ℕ → LineInfo → Call
call_of id line = record { id = id; line = line }

module _ (q : PdbInternalSectionOffset) (listed : ℕ → Option InlineeEntry) where
  -- the call of a record of a procedure that begins there
  abbrev pub call_of_role : PdbInternalSectionOffset → Role → Option Call
  call_of_role parent (at_site id annotations) = option_map (call_of id) (first_line q (lines_of_site parent annotations (listed id)).items)
  call_of_role parent h = None

  abbrev pub between : Code → Entry → Bool
  between c t = nat_lt c.index t.index && nat_lt t.index c.end

  -- the call of a symbol between a procedure's own and the one that ends its scope
  abbrev pub call_in : Code → Entry → Option Call
  call_in c t = if between c t then call_of_role c.place (role (record_at t.bytes)) else None

  abbrev pub calls_in : List Entry → Option Code → List Call
  calls_in symbols None = []
  calls_in symbols (Some c) = filter_map (call_in c) symbols

-- the inlined calls at a place, in the order of their sites
abbrev pub inlined_at : PdbInternalSectionOffset → ModuleBytes → List Call
inlined_at q m = calls_in q (inlinee_with (inlinees_in m)) (symbols_in m) (procedure_at q m)

-- ---- names

-- what a symbol says, where it can be read
abbrev pub says : Entry → Option Data
says s = if_read (record_at s.bytes)

abbrev pub says_if : Option Entry → Option Data
says_if None = None
says_if (Some s) = says s

-- what the symbol of an index says
abbrev pub says_at : ModuleBytes → ℕ → Option Data
says_at m i = says_if (find (λ s. s.index == i) (symbols_in m))

abbrev pub said_at : ModuleBytes → Option ℕ → Option Data
said_at m None = None
said_at m (Some i) = says_at m i

-- the name of a procedure
abbrev pub procedure_name : Option Data → Option (List ℕ)
procedure_name (Some (Procedure s)) = Some s.name
procedure_name d = None

abbrev pub procedure_name_at : PdbInternalSectionOffset → ModuleBytes → Option (List ℕ)
procedure_name_at q m = procedure_name (said_at m (option_map index_of (procedure_at q m)))

-- what names code: a name, and the offset in its section at which the record that has the name begins
pub record Named : Type 0 where
  pub name : Option (List ℕ)
  pub start : Option ℕ

abbrev pub named : List ℕ → PdbInternalSectionOffset → Named
named name place = record { name = Some name; start = Some place.offset }

abbrev pub unnamed : Named
unnamed = record { name = None; start = None }

-- what names a function: separated code has its parent's name, and begins elsewhere
abbrev pub named_by : ModuleBytes → Option Data → Option Named
named_by m (Some (Procedure s)) = Some (named s.name s.offset)
named_by m (Some (Thunk s)) = Some (named s.name s.offset)
named_by m (Some (SeparatedCode s)) = Some (record { name = procedure_name_at s.parent_offset m; start = None })
named_by m d = None

-- what names a managed procedure
abbrev pub managed_named : Option (Result Says Error) → Option Named
managed_named (Some (Ok (ManagedProcedure s))) = Some (named s.name s.offset)
managed_named r = None

abbrev pub further_if : Option Entry → Option (Result Says Error)
further_if None = None
further_if (Some s) = Some (further_at s.bytes)

abbrev pub further_in : ModuleBytes → Option ℕ → Option (Result Says Error)
further_in m None = None
further_in m (Some i) = further_if (find (λ s. s.index == i) (symbols_in m))

-- what names the function of an index
abbrev pub named_in : ModuleBytes → Option ℕ → Option Named
named_in m index = option_or (named_by m (said_at m index)) (managed_named (further_in m index))

abbrev pub name_of_named : Option Named → Option (List ℕ)
name_of_named None = None
name_of_named (Some n) = n.name

abbrev pub name_at : PdbInternalSectionOffset → ModuleBytes → Option (List ℕ)
name_at q m = name_of_named (named_in m (function_at q m))

-- the name of the first procedure that begins at a place
abbrev pub begun_name : PdbInternalSectionOffset → ModuleBytes → Option (List ℕ)
begun_name q m = procedure_name (said_at m (option_map index_of (find (begins_at q) (procedures_in m))))

-- ---- trampolines

-- the least offset of pieces in a section
abbrev pub lesser : ℕ → Option ℕ → ℕ
lesser n None = n
lesser n (Some k) = if nat_lt k n then k else n

abbrev pub least_in : ℕ → List Code → Option ℕ
least_in section [] = None
least_in section (c ∷ cs) = if c.place.section == section then Some (lesser c.place.offset (least_in section cs)) else least_in section cs

-- a trampoline: what it is for, the place of its code, how far that is behind the first in its section, and where it leads
pub record Leading : Type 0 where
  pub kind : TrampolineType
  pub place : PdbInternalSectionOffset
  pub number : ℕ
  pub target : PdbInternalSectionOffset

abbrev pub leading_by : ModuleBytes → Option Data → Option Leading
leading_by m (Some (Trampoline s)) = Some (record { kind = s.tramp_type; place = s.thunk; number = s.thunk.offset - unwrap_or (least_in s.thunk.section (trampolines_in m)) 0; target = s.target })
leading_by m d = None

-- the trampoline at a place
abbrev pub leading_at : PdbInternalSectionOffset → ModuleBytes → Option Leading
leading_at q m = leading_by m (said_at m (option_map index_of (trampoline_at q m)))
