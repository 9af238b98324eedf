-- What records of variables, of ranges and of frames say.
use Rattle.std.specs.Prelude.{ℕ, ◌-◌, ◌==◌, ◌&&◌, ◌||◌, nat_le, nat_lt, Bool, true, false, if◌then◌else◌, List, [], ◌∷◌, Option, Some, None, Result, Ok, Err, filter_map}
use Rattle.pdb.specs.Data.{Data}
use Rattle.pdb.specs.Data.Data.{RegisterVariable, Constant, DataItem, ThreadStorage, Local, RegisterRelative}
use Rattle.pdb.specs.Error.{Error}
use Rattle.pdb.specs.Forms.{kind_at, record_at}
use Rattle.pdb.specs.PdbInternalSectionOffset.{PdbInternalSectionOffset}
use Rattle.pdb.specs.SymbolList.{Entry}
use Rattle.pdb_base.specs.declared.index.TypeIndex.{TypeIndex}
use Rattle.pdb_base.specs.declared.variant.Variant.{Variant}
use Rattle.pdb_records.specs.RangePieces.{is_held}
use Rattle.pdb_records.specs.RecordReading.{further_at}
use Rattle.pdb_records.specs.RecordSays.{Says}
use Rattle.pdb_records.specs.RecordSays.Says.{FrameProcedure, BasePointerRelative, RegisterRelativeOld, FileStatic, DefRange, DefRangeSubfield, DefRangeRegister, DefRangeFramePointerRelative, DefRangeSubfieldRegister, DefRangeFramePointerRelativeFullScope, DefRangeRegisterRelative}
use Rattle.pdb_records.specs.declared.lists.AddressGap.{AddressGap}
use Rattle.pdb_records.specs.declared.lists.AddressRange.{AddressRange}
use Rattle.pdb_variables.specs.declared.frame_bases.Bases.{Bases}
use Rattle.pdb_variables.specs.declared.locations.Storage.{Storage}
use Rattle.pdb_variables.specs.declared.locations.Storage.TheVariants as «in»
use Rattle.pdb_variables.specs.declared.locations.Stored.{Stored}
use Rattle.pdb_variables.specs.declared.locations.VariablePart.{VariablePart}
use Rattle.pdb_variables.specs.declared.variable_records.Held.{Held}
use Rattle.pdb_variables.specs.declared.variable_records.Held.TheVariants.{InOne, ByRanges, AtOffset, OfValue}
use Rattle.pdb_variables.specs.declared.variable_records.VariableKind.{VariableKind}
use Rattle.pdb_variables.specs.declared.variable_records.VariableKind.TheVariants as kinds

-- ---- variables

-- a variable as its record declares it
pub record Declares : Type 0 where
  pub kind : VariableKind
  pub type_index : TypeIndex
  pub name : List ℕ
  pub held : Held

abbrev pub declares : VariableKind → TypeIndex → List ℕ → Held → Option Declares
declares kind type_index name held = Some (record { kind = kind; type_index = type_index; name = name; held = held })

abbrev pub kind_of_local : Bool → VariableKind
kind_of_local true = kinds.Parameter
kind_of_local false = kinds.Local

abbrev pub kind_of_static : Bool → VariableKind
kind_of_static true = kinds.Parameter
kind_of_static false = kinds.Static

-- the variable that a record declares; none for other records
abbrev pub declared_by : Data → Option Declares
declared_by (Local type_index flags name) = declares (kind_of_local flags.isparam) type_index name (ByRanges flags.isparam)
declared_by (RegisterRelative offset type_index register name) = declares kinds.Local type_index name (InOne («in».RegisterRelative register offset))
declared_by (RegisterVariable type_index register name) = declares kinds.Local type_index name (InOne («in».Register register))
declared_by (DataItem global managed type_index offset name) = declares kinds.Static type_index name (AtOffset offset)
declared_by (ThreadStorage global type_index offset name) = declares kinds.Thread type_index name (AtOffset offset)
declared_by (Constant managed type_index value name) = declares kinds.Constant type_index name (OfValue value)
declared_by d = None

abbrev pub declared_further : Says → Option Declares
declared_further (FileStatic type_index module_file flags name) = declares (kind_of_static flags.param) type_index name (ByRanges flags.param)
declared_further (BasePointerRelative offset type_index name) = declares kinds.Local type_index name (InOne («in».BasePointerRelative offset))
declared_further (RegisterRelativeOld offset type_index register name) = declares kinds.Local type_index name (InOne («in».RegisterRelative register offset))
declared_further says = None

abbrev pub declared_if : Result Says Error → Option Declares
declared_if (Ok says) = declared_further says
declared_if (Err e) = None

-- no kind has both readings
abbrev pub declared_or : List ℕ → Result Data Error → Option Declares
declared_or b (Ok d) = declared_by d
declared_or b (Err e) = declared_if (further_at b)

abbrev pub declared_at : Entry → Option Declares
declared_at s = declared_or s.bytes (record_at s.bytes)

-- ---- what is told twice

-- a variable's type and name, as one list of numbers
abbrev pub key_of : Declares → List ℕ
key_of d = d.type_index.0 ∷ d.name

-- of one that records of ranges follow
abbrev pub key_by : List ℕ → Held → Option (List ℕ)
key_by key (ByRanges parameter) = Some key
key_by key held = None

abbrev pub told_key : Declares → Option (List ℕ)
told_key d = key_by (key_of d) d.held

-- one that is in one storage, in all of its scope
abbrev pub is_in_one : Held → Bool
is_in_one (InOne storage) = true
is_in_one held = false

-- ---- frames

abbrev pub no_bases : Bases
no_bases = record { local = 0; parameter = 0 }

abbrev pub bases_in : Result Says Error → Option Bases
bases_in (Ok (FrameProcedure s)) = Some (record { local = s.local_base; parameter = s.parameter_base })
bases_in r = None

-- the registers that a frame's record tells; none for other records
abbrev pub bases_at : Entry → Option Bases
bases_at s = bases_in (further_at s.bytes)

abbrev pub base_of : Bases → Bool → ℕ
base_of bases true = bases.parameter
base_of bases false = bases.local

-- the kind of separated code
abbrev pub is_separated : ℕ → Bool
is_separated kind = kind == 0x1132

-- ---- ranges

-- a kind of records of ranges
abbrev pub is_of_ranges : ℕ → Bool
is_of_ranges kind = (nat_le 0x113f kind && nat_le kind 0x1145) || kind == 0x1150 || kind == 0x1157

pub data Extent : Type 0 where
  Nothing : Extent
  Everywhere : Extent
  Within : (range : AddressRange) (gaps : List AddressGap) → Extent

-- in which code a record of a range holds
abbrev pub extent_of : Says → Extent
extent_of (DefRange program range gaps) = Within range gaps
extent_of (DefRangeSubfield program offset_in_parent range gaps) = Within range gaps
extent_of (DefRangeRegister register maybe range gaps) = Within range gaps
extent_of (DefRangeFramePointerRelative offset range gaps) = Within range gaps
extent_of (DefRangeSubfieldRegister register maybe offset_in_parent range gaps) = Within range gaps
extent_of (DefRangeFramePointerRelativeFullScope offset) = Everywhere
extent_of (DefRangeRegisterRelative register subfield offset range gaps) = Within range gaps
extent_of says = Nothing

-- a range has a place, and none of its gaps has
abbrev pub range_covers : PdbInternalSectionOffset → AddressRange → List AddressGap → Bool
range_covers q range gaps =
    (range.start.section == q.section) && nat_le range.start.offset q.offset
    && nat_lt (q.offset - range.start.offset) range.len && is_held gaps (q.offset - range.start.offset)

abbrev pub covers : PdbInternalSectionOffset → Extent → Bool
covers q Nothing = false
covers q Everywhere = true
covers q (Within range gaps) = range_covers q range gaps

-- the whole variable is stored there, or the part at an offset in it
abbrev pub stored_as : Option ℕ → Storage → Option Stored
stored_as offset storage = Some (record { offset = offset; storage = storage })

-- where a record of a range says that a variable is, in a frame that counts from this register
abbrev pub stored_by : ℕ → Says → Option Stored
stored_by base (DefRange program range gaps) = stored_as None («in».Program program)
stored_by base (DefRangeSubfield program offset_in_parent range gaps) = stored_as (Some offset_in_parent) («in».Program program)
stored_by base (DefRangeRegister register maybe range gaps) = stored_as None («in».Register register)
stored_by base (DefRangeFramePointerRelative offset range gaps) = stored_as None («in».FrameRelative base offset)
stored_by base (DefRangeSubfieldRegister register maybe offset_in_parent range gaps) = stored_as (Some offset_in_parent) («in».Register register)
stored_by base (DefRangeFramePointerRelativeFullScope offset) = stored_as None («in».FrameRelative base offset)
stored_by base (DefRangeRegisterRelative register subfield offset range gaps) = stored_as subfield («in».RegisterRelative register offset)
stored_by base says = None

-- the same, where it covers a place; nothing of one that can't be read
abbrev pub stored_if : PdbInternalSectionOffset → ℕ → Result Says Error → Option Stored
stored_if q base (Ok says) = if covers q (extent_of says) then stored_by base says else None
stored_if q base (Err e) = None

abbrev pub stored_at : PdbInternalSectionOffset → ℕ → Entry → Option Stored
stored_at q base s = stored_if q base (further_at s.bytes)

-- ---- where a variable is

-- the records of ranges that stand directly behind it
abbrev pub ranges_of : List Entry → List Entry
ranges_of [] = []
ranges_of (s ∷ ss) = if is_of_ranges (kind_at s.bytes) then s ∷ ranges_of ss else []

abbrev pub whole_by : Option ℕ → Storage → Option Storage
whole_by None storage = Some storage
whole_by (Some offset) storage = None

abbrev pub part_by : Option ℕ → Storage → Option VariablePart
part_by None storage = None
part_by (Some offset) storage = Some (record { offset = offset; storage = storage })

-- what stands for the whole variable; for a part of it
abbrev pub whole_of : Stored → Option Storage
whole_of s = whole_by s.offset s.storage

abbrev pub part_of : Stored → Option VariablePart
part_of s = part_by s.offset s.storage

pub data Place : Type 0 where
  Nowhere : Place
  Whole : (storage : Storage) → Place
  Parts : (parts : List VariablePart) → Place
  At : (offset : PdbInternalSectionOffset) → Place
  Value : (value : Variant) → Place

-- the first whole one counts, or else all parts
abbrev pub place_by : List Storage → List VariablePart → Place
place_by (storage ∷ more) parts = Whole storage
place_by [] (part ∷ parts) = Parts (part ∷ parts)
place_by [] [] = Nowhere

-- by what the records say that cover the place
abbrev pub place_of : List Stored → Place
place_of ss = place_by (filter_map whole_of ss) (filter_map part_of ss)

-- where a variable is, before these records
abbrev pub ranged_place : PdbInternalSectionOffset → ℕ → List Entry → Place
ranged_place q base ss = place_of (filter_map (stored_at q base) (ranges_of ss))

abbrev pub held_place : PdbInternalSectionOffset → Bases → List Entry → Held → Place
held_place q bases ss (InOne storage) = Whole storage
held_place q bases ss (ByRanges parameter) = ranged_place q (base_of bases parameter) ss
held_place q bases ss (AtOffset offset) = At offset
held_place q bases ss (OfValue value) = Value value
