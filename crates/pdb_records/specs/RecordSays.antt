-- What further records say, without where their bytes lie in memory.
use Rattle.std.specs.Prelude.{ℕ, ℤ, Bool, List, Option}
use Rattle.pdb_base.specs.declared.index.IdIndex.{IdIndex}
use Rattle.pdb_base.specs.declared.index.PdbInternalSectionOffset.{PdbInternalSectionOffset}
use Rattle.pdb_base.specs.declared.index.Register.{Register}
use Rattle.pdb_base.specs.declared.index.SymbolIndex.{SymbolIndex}
use Rattle.pdb_base.specs.declared.index.TypeIndex.{TypeIndex}
use Rattle.pdb_symbols.specs.declared.flags.ProcedureFlags.{ProcedureFlags}
use Rattle.pdb_records.specs.declared.code.CallSiteInfo.{CallSiteInfo}
use Rattle.pdb_records.specs.declared.code.HeapAllocationSite.{HeapAllocationSite}
use Rattle.pdb_records.specs.declared.code.JumpTable.{JumpTable}
use Rattle.pdb_records.specs.declared.code.PogoData.{PogoData}
use Rattle.pdb_records.specs.declared.flags.MiniReferenceFlags.{MiniReferenceFlags}
use Rattle.pdb_records.specs.declared.flags.VariableFlags.{VariableFlags}
use Rattle.pdb_records.specs.declared.frames.FrameCookie.{FrameCookie}
use Rattle.pdb_records.specs.declared.frames.FrameProcedure.{FrameProcedure as FrameProcedureSays}
use Rattle.pdb_records.specs.declared.lists.AddressGap.{AddressGap}
use Rattle.pdb_records.specs.declared.lists.AddressRange.{AddressRange}
use Rattle.pdb_records.specs.declared.lists.Relation.{Relation}
use Rattle.pdb_records.specs.declared.managed_variables.Attributes.{Attributes}
use Rattle.pdb_records.specs.declared.older.Discard.{Discard}
use Rattle.pdb_records.specs.declared.older.ModuleTypeReference.{ModuleTypeReference}
use Rattle.pdb_records.specs.declared.older.StartSearch.{StartSearch}
use Rattle.pdb_records.specs.declared.older.VirtualTablePath.{VirtualTablePath}
use Rattle.pdb_records.specs.declared.shared.PointerTag.{PointerTag}

-- what a record of a section says
pub record SectionSays : Type 0 where
  pub section : ℕ
  pub alignment : ℕ
  pub address : ℕ
  pub len : ℕ
  pub characteristics : ℕ
  pub name : List ℕ

-- what a record of a managed procedure says
pub record ManagedProcedureSays : Type 0 where
  pub global : Bool
  pub parent : Option SymbolIndex
  pub end : SymbolIndex
  pub next : Option SymbolIndex
  pub len : ℕ
  pub dbg_start_offset : ℕ
  pub dbg_end_offset : ℕ
  pub token : ℕ
  pub offset : PdbInternalSectionOffset
  pub flags : ProcedureFlags
  pub return_register : Register
  pub name : List ℕ

-- what a record says, by its form
pub data Says : Type 0 where
  FrameProcedure : (s : FrameProcedureSays) → Says
  BasePointerRelative : (offset : ℤ) (type_index : TypeIndex) (name : List ℕ) → Says
  DefRange : (program : ℕ) (range : AddressRange) (gaps : List AddressGap) → Says
  DefRangeSubfield : (program offset_in_parent : ℕ) (range : AddressRange) (gaps : List AddressGap) → Says
  DefRangeRegister : (register : Register) (maybe : Bool) (range : AddressRange) (gaps : List AddressGap) → Says
  DefRangeFramePointerRelative : (offset : ℤ) (range : AddressRange) (gaps : List AddressGap) → Says
  DefRangeSubfieldRegister : (register : Register) (maybe : Bool) (offset_in_parent : ℕ) (range : AddressRange) (gaps : List AddressGap) → Says
  DefRangeFramePointerRelativeFullScope : (offset : ℤ) → Says
  DefRangeRegisterRelative : (register : Register) (subfield : Option ℕ) (offset : ℤ) (range : AddressRange) (gaps : List AddressGap) → Says
  FileStatic : (type_index : TypeIndex) (module_file : ℕ) (flags : VariableFlags) (name : List ℕ) → Says
  FrameCookieSays : (s : FrameCookie) → Says
  CallSite : (s : CallSiteInfo) → Says
  HeapAllocation : (s : HeapAllocationSite) → Says
  FunctionList : (relation : Relation) (functions invocations : List ℕ) → Says
  Jumps : (s : JumpTable) → Says
  CoffGroup : (len characteristics : ℕ) (offset : PdbInternalSectionOffset) (name : List ℕ) → Says
  Section : (s : SectionSays) → Says
  EnvironmentBlock : (rev : Bool) (strings : List (List ℕ)) → Says
  Annotation : (offset : PdbInternalSectionOffset) (strings : List (List ℕ)) → Says
  Pogo : (s : PogoData) → Says
  HotPatchFunction : (id : IdIndex) (name : List ℕ) → Says
  ManagedProcedure : (s : ManagedProcedureSays) → Says
  TokenReference : (sum_name : ℕ) (symbol_index : SymbolIndex) (of_module : Option ℕ) (name : List ℕ) → Says
  Oem : (id : List ℕ) (type_index : TypeIndex) (content : List ℕ) → Says
  LocalGroupShared : (type_index : TypeIndex) (flags : VariableFlags) (data_slot data_offset : ℕ) (name : List ℕ) → Says
  PointerTagMap : (tags : List PointerTag) → Says
  RegisterRelativeOld : (offset : ℤ) (type_index : TypeIndex) (register : Register) (name : List ℕ) → Says
  With : (parent : Option SymbolIndex) (end : SymbolIndex) (len : ℕ) (offset : PdbInternalSectionOffset) (name : List ℕ) → Says
  TablePath : (s : VirtualTablePath) → Says
  TypeReference : (s : ModuleTypeReference) → Says
  MiniReference : (value : ℕ) (of_module : Option ℕ) (flags : MiniReferenceFlags) (name : List ℕ) → Says
  Discarded : (why : Discard) (file line : ℕ) (content : List ℕ) → Says
  Compile : (cpu language flags : ℕ) (name : List ℕ) → Says
  Search : (s : StartSearch) → Says
  EndOfArguments : Says
  Slot : (param : Bool) (slot : ℕ) (type_index : TypeIndex) (name : List ℕ) → Says
  ManagedSlot : (slot : ℕ) (type_index : TypeIndex) (attributes : Attributes) (name : List ℕ) → Says
  ManagedFrameRelative : (offset : ℤ) (type_index : TypeIndex) (attributes : Attributes) (name : List ℕ) → Says
  ManagedRegister : (type_index : TypeIndex) (attributes : Attributes) (register : Register) (name : List ℕ) → Says
  ManagedRegisterRelative : (offset : ℤ) (type_index : TypeIndex) (register : Register) (attributes : Attributes) (name : List ℕ) → Says
