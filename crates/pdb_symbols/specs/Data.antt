-- What records say, without where their bytes lie in memory.
use Rattle.std.specs.Prelude.{ℕ, ℤ, Bool, List, Option, Some, None, map}
use Rattle.std.specs.Option.{option_map}
use Rattle.pdb_base.specs.declared.index.IdIndex.{IdIndex}
use Rattle.pdb_base.specs.declared.index.PdbInternalSectionOffset.{PdbInternalSectionOffset}
use Rattle.pdb_base.specs.declared.index.TypeIndex.{TypeIndex}
use Rattle.pdb_base.specs.declared.index.SymbolIndex.{SymbolIndex}
use Rattle.pdb_base.specs.declared.index.Register.{Register}
use Rattle.pdb_base.specs.declared.text.RawString.{RawString}
use Rattle.pdb_base.specs.declared.variant.Variant.{Variant}
use Rattle.pdb_base.specs.Text.{name_bytes}
use Rattle.pdb_symbols.specs.AnnotationViews.{annotation_bytes}
use Rattle.pdb_symbols.specs.declared.compilers.BuildInfoSymbol.{BuildInfoSymbol}
use Rattle.pdb_symbols.specs.declared.compilers.CompilerVersion.{CompilerVersion}
use Rattle.pdb_symbols.specs.declared.data.SymbolData.{SymbolData}
use Rattle.pdb_symbols.specs.declared.data.SymbolData.TheVariants as rust
use Rattle.pdb_symbols.specs.declared.flags.CompileFlags.{CompileFlags}
use Rattle.pdb_symbols.specs.declared.flags.ExportSymbolFlags.{ExportSymbolFlags}
use Rattle.pdb_symbols.specs.declared.flags.LocalVariableFlags.{LocalVariableFlags}
use Rattle.pdb_symbols.specs.declared.flags.ProcedureFlags.{ProcedureFlags}
use Rattle.pdb_symbols.specs.declared.language.SourceLanguage.{SourceLanguage}
use Rattle.pdb_symbols.specs.declared.procedures.SeparatedCodeSymbol.{SeparatedCodeSymbol}
use Rattle.pdb_symbols.specs.declared.processor.CPUType.{CPUType}
use Rattle.pdb_symbols.specs.declared.thunks.ThunkAdjustor.{ThunkAdjustor}
use Rattle.pdb_symbols.specs.declared.thunks.ThunkKind.{ThunkKind}
use Rattle.pdb_symbols.specs.declared.thunks.ThunkKind.TheVariants as thunk
use Rattle.pdb_symbols.specs.declared.thunks.TrampolineSymbol.{TrampolineSymbol}

-- what a record of a procedure says
pub record ProcedureSays : Type 0 where
  pub global : Bool
  pub dpc : Bool
  pub parent : Option SymbolIndex
  pub end : SymbolIndex
  pub next : Option SymbolIndex
  pub len : ℕ
  pub dbg_start_offset : ℕ
  pub dbg_end_offset : ℕ
  pub type_index : TypeIndex
  pub offset : PdbInternalSectionOffset
  pub flags : ProcedureFlags
  pub name : List ℕ

-- what a record of an inlined call says
pub record InlineSiteSays : Type 0 where
  pub parent : Option SymbolIndex
  pub end : SymbolIndex
  pub inlinee : IdIndex
  pub invocations : Option ℕ
  pub annotations : List ℕ

-- what a thunk does
pub data ThunkDoes : Type 0 where
  NoType : ThunkDoes
  Adjustor : (delta : ℕ) (target : List ℕ) → ThunkDoes
  VCall : (offset : ℕ) → ThunkDoes
  PCode : ThunkDoes
  Load : ThunkDoes
  Unknown : (ordinal : ℕ) → ThunkDoes

-- what a record of a thunk says
pub record ThunkSays : Type 0 where
  pub parent : Option SymbolIndex
  pub end : SymbolIndex
  pub next : Option SymbolIndex
  pub offset : PdbInternalSectionOffset
  pub len : ℕ
  pub does : ThunkDoes
  pub name : List ℕ

-- what a record of a compiler says
pub record CompilerSays : Type 0 where
  pub language : SourceLanguage
  pub flags : CompileFlags
  pub cpu_type : CPUType
  pub frontend_version : CompilerVersion
  pub backend_version : CompilerVersion
  pub version_string : List ℕ

-- what a record says, by its form
pub data Data : Type 0 where
  ScopeEnd : Data
  ObjName : (signature : ℕ) (name : List ℕ) → Data
  RegisterVariable : (type_index : TypeIndex) (register : Register) (name : List ℕ) → Data
  Constant : (managed : Bool) (type_index : TypeIndex) (value : Variant) (name : List ℕ) → Data
  UserDefinedType : (type_index : TypeIndex) (name : List ℕ) → Data
  MultiRegisterVariable : (type_index : TypeIndex) (registers : List (Register × List ℕ)) → Data
  DataItem : (global managed : Bool) (type_index : TypeIndex) (offset : PdbInternalSectionOffset) (name : List ℕ) → Data
  Public : (code function managed msil : Bool) (offset : PdbInternalSectionOffset) (name : List ℕ) → Data
  Procedure : (s : ProcedureSays) → Data
  ThreadStorage : (global : Bool) (type_index : TypeIndex) (offset : PdbInternalSectionOffset) (name : List ℕ) → Data
  Compiler : (s : CompilerSays) → Data
  UsingNamespace : (name : List ℕ) → Data
  ProcedureReference : (global : Bool) (sum_name : ℕ) (symbol_index : SymbolIndex) (of_module : Option ℕ) (name : Option (List ℕ)) → Data
  DataReference : (sum_name : ℕ) (symbol_index : SymbolIndex) (of_module : Option ℕ) (name : Option (List ℕ)) → Data
  AnnotationReference : (sum_name : ℕ) (symbol_index : SymbolIndex) (of_module : Option ℕ) (name : List ℕ) → Data
  Trampoline : (s : TrampolineSymbol) → Data
  Export : (ordinal : ℕ) (flags : ExportSymbolFlags) (name : List ℕ) → Data
  Local : (type_index : TypeIndex) (flags : LocalVariableFlags) (name : List ℕ) → Data
  BuildInfo : (s : BuildInfoSymbol) → Data
  InlineSite : (s : InlineSiteSays) → Data
  InlineSiteEnd : Data
  ProcedureEnd : Data
  Label : (offset : PdbInternalSectionOffset) (flags : ProcedureFlags) (name : List ℕ) → Data
  Block : (parent end : SymbolIndex) (len : ℕ) (offset : PdbInternalSectionOffset) (name : List ℕ) → Data
  RegisterRelative : (offset : ℤ) (type_index : TypeIndex) (register : Register) (name : List ℕ) → Data
  Thunk : (s : ThunkSays) → Data
  SeparatedCode : (s : SeparatedCodeSymbol) → Data

-- the bytes of its name, if it has one
abbrev pub name_of : Data → Option (List ℕ)
name_of ScopeEnd = None
name_of (ObjName signature name) = Some name
name_of (RegisterVariable type_index register name) = None
name_of (Constant managed type_index value name) = Some name
name_of (UserDefinedType type_index name) = Some name
name_of (MultiRegisterVariable type_index registers) = None
name_of (DataItem global managed type_index offset name) = Some name
name_of (Public code function managed msil offset name) = Some name
name_of (Procedure s) = Some s.name
name_of (ThreadStorage global type_index offset name) = Some name
name_of (Compiler s) = None
name_of (UsingNamespace name) = Some name
name_of (ProcedureReference global sum_name symbol_index of_module name) = name
name_of (DataReference sum_name symbol_index of_module name) = name
name_of (AnnotationReference sum_name symbol_index of_module name) = Some name
name_of (Trampoline s) = None
name_of (Export ordinal flags name) = Some name
name_of (Local type_index flags name) = Some name
name_of (BuildInfo s) = None
name_of (InlineSite s) = None
name_of InlineSiteEnd = None
name_of ProcedureEnd = None
name_of (Label offset flags name) = Some name
name_of (Block parent end len offset name) = Some name
name_of (RegisterRelative offset type_index register name) = Some name
name_of (Thunk s) = Some s.name
name_of (SeparatedCode s) = None

-- it has memory of its own
abbrev pub HasMemory : Data → Type 0
HasMemory (MultiRegisterVariable type_index registers) = Unit {0}
HasMemory d = ⊥

-- ---- what the structs show

abbrev pub shown_register : (Register × RawString) → (Register × List ℕ)
shown_register r = (r.0, name_bytes r.1)

abbrev pub shown_registers : List (Register × RawString) → List (Register × List ℕ)
shown_registers rs = map shown_register rs

abbrev pub adjustor_delta : ThunkAdjustor → ℕ
adjustor_delta a = a.delta

abbrev pub adjustor_target : ThunkAdjustor → List ℕ
adjustor_target a = name_bytes a.target

abbrev pub shown_thunk_kind : ThunkKind → ThunkDoes
shown_thunk_kind thunk.NoType = NoType
shown_thunk_kind (thunk.Adjustor a) = Adjustor (adjustor_delta a) (adjustor_target a)
shown_thunk_kind (thunk.VCall n) = VCall n
shown_thunk_kind thunk.PCode = PCode
shown_thunk_kind thunk.Load = Load
shown_thunk_kind (thunk.Unknown n) = Unknown n

abbrev pub shown : SymbolData → Data
shown rust.ScopeEnd = ScopeEnd
shown (rust.ObjName s) = ObjName s.signature (name_bytes s.name)
shown (rust.RegisterVariable s) = RegisterVariable s.type_index s.register (name_bytes s.name)
shown (rust.Constant s) = Constant s.managed s.type_index s.value (name_bytes s.name)
shown (rust.UserDefinedType s) = UserDefinedType s.type_index (name_bytes s.name)
shown (rust.MultiRegisterVariable s) = MultiRegisterVariable s.type_index (shown_registers s.registers.items)
shown (rust.Data s) = DataItem s.global s.managed s.type_index s.offset (name_bytes s.name)
shown (rust.Public s) = Public s.code s.function s.managed s.msil s.offset (name_bytes s.name)
shown (rust.Procedure s) = Procedure (record {
  global = s.global;
  dpc = s.dpc;
  parent = s.parent;
  end = s.end;
  next = s.next;
  len = s.len;
  dbg_start_offset = s.dbg_start_offset;
  dbg_end_offset = s.dbg_end_offset;
  type_index = s.type_index;
  offset = s.offset;
  flags = s.flags;
  name = name_bytes s.name;
})
shown (rust.ThreadStorage s) = ThreadStorage s.global s.type_index s.offset (name_bytes s.name)
shown (rust.CompileFlags s) = Compiler (record {
  language = s.language;
  flags = s.flags;
  cpu_type = s.cpu_type;
  frontend_version = s.frontend_version;
  backend_version = s.backend_version;
  version_string = name_bytes s.version_string;
})
shown (rust.UsingNamespace s) = UsingNamespace (name_bytes s.name)
shown (rust.ProcedureReference s) = ProcedureReference s.global s.sum_name s.symbol_index s.«module» (option_map name_bytes s.name)
shown (rust.DataReference s) = DataReference s.sum_name s.symbol_index s.«module» (option_map name_bytes s.name)
shown (rust.AnnotationReference s) = AnnotationReference s.sum_name s.symbol_index s.«module» (name_bytes s.name)
shown (rust.Trampoline s) = Trampoline s
shown (rust.Export s) = Export s.ordinal s.flags (name_bytes s.name)
shown (rust.Local s) = Local s.type_index s.flags (name_bytes s.name)
shown (rust.BuildInfo s) = BuildInfo s
shown (rust.InlineSite s) = InlineSite (record {
  parent = s.parent;
  end = s.end;
  inlinee = s.inlinee;
  invocations = s.invocations;
  annotations = annotation_bytes s.annotations;
})
shown rust.InlineSiteEnd = InlineSiteEnd
shown rust.ProcedureEnd = ProcedureEnd
shown (rust.Label s) = Label s.offset s.flags (name_bytes s.name)
shown (rust.Block s) = Block s.parent s.end s.len s.offset (name_bytes s.name)
shown (rust.RegisterRelative s) = RegisterRelative s.offset s.type_index s.register (name_bytes s.name)
shown (rust.Thunk s) = Thunk (record {
  parent = s.parent;
  end = s.end;
  next = s.next;
  offset = s.offset;
  len = s.len;
  does = shown_thunk_kind s.kind;
  name = name_bytes s.name;
})
shown (rust.SeparatedCode s) = SeparatedCode s
