-- Further records in numbers. What a record doesn't have is 0 or empty.
use Rattle.std.specs.Prelude.{◌≡◌, ℕ, ◌+◌, pos, nat_le, nat_lt, List, [], length, Option, Some, None, is_some, Result, Ok, Err, if◌then◌else◌}
use Rattle.std.specs.Option.{unwrap_or}
use Rattle.pdb.specs.Error.{Error}
use Rattle.pdb.specs.Error.TheVariants.{SymbolTooShort}
use Rattle.pdb.specs.Fields.{number}
use Rattle.pdb.specs.Left.{Left}
use Rattle.pdb.specs.PdbInternalSectionOffset.{PdbInternalSectionOffset}
use Rattle.pdb.specs.Refusal.{◌>>=◌, number_of}
use Rattle.pdb_records.specs.RecordReading.{further_at}
use Rattle.pdb_records.specs.RecordSays.{Says}
use Rattle.pdb_records.specs.RecordSays.Says.{FrameProcedure, BasePointerRelative, DefRange, DefRangeSubfield, DefRangeRegister, DefRangeFramePointerRelative, DefRangeSubfieldRegister, DefRangeFramePointerRelativeFullScope, DefRangeRegisterRelative, FileStatic, FrameCookieSays, CallSite, HeapAllocation, FunctionList, Jumps, CoffGroup, Section, EnvironmentBlock, Annotation, Pogo, HotPatchFunction, ManagedProcedure, TokenReference, Oem, LocalGroupShared, PointerTagMap, RegisterRelativeOld, With, TablePath, TypeReference, MiniReference, Discarded, Compile, Search, EndOfArguments, Slot, ManagedSlot, ManagedFrameRelative, ManagedRegister, ManagedRegisterRelative}
use Rattle.pdb_records.specs.declared.lists.AddressGap.{AddressGap}
use Rattle.pdb_records.specs.declared.lists.AddressRange.{AddressRange}
use Rattle.pdb_c.specs.FrameRows.{told_of}
use Rattle.pdb_c.specs.Lists.{whole_list}
use Rattle.pdb_c.specs.StorageNumbers.{stored, stored_nowhere}
use Rattle.pdb_c.specs.declared.gaps.PdbGap.{PdbGap}
use Rattle.pdb_c.specs.declared.record_fields.FlagsPlace.{FlagsPlace}
use Rattle.pdb_c.specs.declared.record_fields.FlagsPlace.TheVariants.{NoFlags, OneByte, TwoBytes, FourBytes}
use Rattle.pdb_c.specs.declared.further_records.PdbRecord.{PdbRecord}
use Rattle.pdb_c.specs.declared.storage_numbers.StorageNumbers.{StorageNumbers}

-- the number of a record layout from 27 on
abbrev pub form_from_27 : Says → ℕ
form_from_27 (RegisterRelativeOld offset type_index register name) = 27
form_from_27 (With parent end len offset name) = 28
form_from_27 (TablePath s) = 29
form_from_27 (TypeReference s) = 30
form_from_27 (MiniReference value of_module flags name) = 31
form_from_27 (Discarded why file line content) = 32
form_from_27 (Compile cpu language flags name) = 33
form_from_27 (Search s) = 34
form_from_27 EndOfArguments = 35
form_from_27 (Slot param slot type_index name) = 36
form_from_27 (ManagedSlot slot type_index attributes name) = 37
form_from_27 (ManagedFrameRelative offset type_index attributes name) = 38
form_from_27 (ManagedRegister type_index attributes register name) = 39
form_from_27 (ManagedRegisterRelative offset type_index register attributes name) = 40
form_from_27 says = 0

-- the same from 14 on
abbrev pub form_from_14 : Says → ℕ
form_from_14 (FunctionList relation functions invocations) = 14
form_from_14 (Jumps s) = 15
form_from_14 (CoffGroup len characteristics offset name) = 16
form_from_14 (Section s) = 17
form_from_14 (EnvironmentBlock rev strings) = 18
form_from_14 (Annotation offset strings) = 19
form_from_14 (Pogo s) = 20
form_from_14 (HotPatchFunction id name) = 21
form_from_14 (ManagedProcedure s) = 22
form_from_14 (TokenReference sum_name symbol_index of_module name) = 23
form_from_14 (Oem id type_index content) = 24
form_from_14 (LocalGroupShared type_index flags data_slot data_offset name) = 25
form_from_14 (PointerTagMap tags) = 26
form_from_14 says = form_from_27 says

-- the number of a record layout, from 1
abbrev pub record_form : Says → ℕ
record_form (FrameProcedure s) = 1
record_form (BasePointerRelative offset type_index name) = 2
record_form (DefRange program range gaps) = 3
record_form (DefRangeSubfield program offset_in_parent range gaps) = 4
record_form (DefRangeRegister register maybe range gaps) = 5
record_form (DefRangeFramePointerRelative offset range gaps) = 6
record_form (DefRangeSubfieldRegister register maybe offset_in_parent range gaps) = 7
record_form (DefRangeFramePointerRelativeFullScope offset) = 8
record_form (DefRangeRegisterRelative register subfield offset range gaps) = 9
record_form (FileStatic type_index module_file flags name) = 10
record_form (FrameCookieSays s) = 11
record_form (CallSite s) = 12
record_form (HeapAllocation s) = 13
record_form says = form_from_14 says

-- where a variable or a part of it is; of a frame's cookie where that is
abbrev pub record_storage : Says → StorageNumbers
record_storage (BasePointerRelative offset type_index name) = stored 3 0 offset
record_storage (DefRange program range gaps) = stored 5 program (pos 0)
record_storage (DefRangeSubfield program offset_in_parent range gaps) = stored 5 program (pos 0)
record_storage (DefRangeRegister register maybe range gaps) = stored 1 register.0 (pos 0)
record_storage (DefRangeFramePointerRelative offset range gaps) = stored 4 0 offset
record_storage (DefRangeSubfieldRegister register maybe offset_in_parent range gaps) = stored 1 register.0 (pos 0)
record_storage (DefRangeFramePointerRelativeFullScope offset) = stored 4 0 offset
record_storage (DefRangeRegisterRelative register subfield offset range gaps) = stored 2 register.0 offset
record_storage (FrameCookieSays s) = stored 2 s.register.0 s.offset
record_storage (RegisterRelativeOld offset type_index register name) = stored 2 register.0 offset
record_storage (ManagedFrameRelative offset type_index attributes name) = stored 4 0 offset
record_storage (ManagedRegister type_index attributes register name) = stored 1 register.0 (pos 0)
record_storage (ManagedRegisterRelative offset type_index register attributes name) = stored 2 register.0 offset
record_storage says = stored_nowhere

-- the offset of a part in its variable
abbrev pub record_part : Says → Option ℕ
record_part (DefRangeSubfield program offset_in_parent range gaps) = Some offset_in_parent
record_part (DefRangeSubfieldRegister register maybe offset_in_parent range gaps) = Some offset_in_parent
record_part (DefRangeRegisterRelative register subfield offset range gaps) = subfield
record_part says = None

-- the code in which a record of a range holds, but for its gaps
abbrev pub record_range : Says → Option AddressRange
record_range (DefRange program range gaps) = Some range
record_range (DefRangeSubfield program offset_in_parent range gaps) = Some range
record_range (DefRangeRegister register maybe range gaps) = Some range
record_range (DefRangeFramePointerRelative offset range gaps) = Some range
record_range (DefRangeSubfieldRegister register maybe offset_in_parent range gaps) = Some range
record_range (DefRangeRegisterRelative register subfield offset range gaps) = Some range
record_range says = None

-- the place in the image of a record without a range; of a frame its exception handler, and of a variable with attributes where it is live
abbrev pub other_place : Says → Option PdbInternalSectionOffset
other_place (FrameProcedure s) = Some s.exception_handler
other_place (CallSite s) = Some s.offset
other_place (HeapAllocation s) = Some s.offset
other_place (Jumps s) = Some s.branch
other_place (CoffGroup len characteristics offset name) = Some offset
other_place (Section s) = Some (record { offset = 0; section = s.section })
other_place (Annotation offset strings) = Some offset
other_place (ManagedProcedure s) = Some s.offset
other_place (With parent end len offset name) = Some offset
other_place (TablePath s) = Some s.offset
other_place (ManagedSlot slot type_index attributes name) = Some attributes.live
other_place (ManagedFrameRelative offset type_index attributes name) = Some attributes.live
other_place (ManagedRegister type_index attributes register name) = Some attributes.live
other_place (ManagedRegisterRelative offset type_index register attributes name) = Some attributes.live
other_place says = None

-- the place in the image: of a range its start
abbrev pub place_by : Option AddressRange → Option PdbInternalSectionOffset → Option PdbInternalSectionOffset
place_by None other = other
place_by (Some range) other = Some range.start

abbrev pub record_place : Says → Option PdbInternalSectionOffset
record_place says = place_by (record_range says) (other_place says)

-- bytes of a record without a range: of a frame, of an instruction, of code, of a group or of a section
abbrev pub other_size : Says → ℕ
other_size (FrameProcedure s) = s.frame_bytes
other_size (HeapAllocation s) = s.instruction_bytes
other_size (CoffGroup len characteristics offset name) = len
other_size (Section s) = s.len
other_size (ManagedProcedure s) = s.len
other_size (With parent end len offset name) = len
other_size says = 0

abbrev pub size_by : Option AddressRange → ℕ → ℕ
size_by None other = other
size_by (Some range) other = range.len

abbrev pub record_size : Says → ℕ
record_size says = size_by (record_range says) (other_size says)

abbrev pub record_type : Says → ℕ
record_type (BasePointerRelative offset type_index name) = type_index.0
record_type (FileStatic type_index module_file flags name) = type_index.0
record_type (CallSite s) = s.type_index.0
record_type (HeapAllocation s) = s.type_index.0
record_type (Oem id type_index content) = type_index.0
record_type (LocalGroupShared type_index flags data_slot data_offset name) = type_index.0
record_type (RegisterRelativeOld offset type_index register name) = type_index.0
record_type (TablePath s) = s.root.0
record_type (Slot param slot type_index name) = type_index.0
record_type (ManagedSlot slot type_index attributes name) = type_index.0
record_type (ManagedFrameRelative offset type_index attributes name) = type_index.0
record_type (ManagedRegister type_index attributes register name) = type_index.0
record_type (ManagedRegisterRelative offset type_index register attributes name) = type_index.0
record_type says = 0

abbrev pub record_name : Says → List ℕ
record_name (BasePointerRelative offset type_index name) = name
record_name (FileStatic type_index module_file flags name) = name
record_name (CoffGroup len characteristics offset name) = name
record_name (Section s) = s.name
record_name (HotPatchFunction id name) = name
record_name (ManagedProcedure s) = s.name
record_name (TokenReference sum_name symbol_index of_module name) = name
record_name (LocalGroupShared type_index flags data_slot data_offset name) = name
record_name (RegisterRelativeOld offset type_index register name) = name
record_name (With parent end len offset name) = name
record_name (MiniReference value of_module flags name) = name
record_name (Compile cpu language flags name) = name
record_name (Slot param slot type_index name) = name
record_name (ManagedSlot slot type_index attributes name) = name
record_name (ManagedFrameRelative offset type_index attributes name) = name
record_name (ManagedRegister type_index attributes register name) = name
record_name (ManagedRegisterRelative offset type_index register attributes name) = name
record_name says = []

-- ---- flags

-- where a record has flags, or the characteristics of a group or a section: how many bytes, and at which
abbrev pub flags_place : Says → FlagsPlace
flags_place (FrameProcedure s) = FourBytes 24
flags_place (FileStatic type_index module_file flags name) = TwoBytes 10
flags_place (FrameCookieSays s) = OneByte 9
flags_place (CoffGroup len characteristics offset name) = FourBytes 6
flags_place (Section s) = FourBytes 14
flags_place (EnvironmentBlock rev strings) = OneByte 2
flags_place (ManagedProcedure s) = OneByte 36
flags_place (LocalGroupShared type_index flags data_slot data_offset name) = TwoBytes 6
flags_place (TypeReference s) = FourBytes 2
flags_place (MiniReference value of_module flags name) = TwoBytes 8
flags_place (Compile cpu language flags name) = TwoBytes 4
flags_place (ManagedSlot slot type_index attributes name) = TwoBytes 16
flags_place (ManagedFrameRelative offset type_index attributes name) = TwoBytes 16
flags_place (ManagedRegister type_index attributes register name) = TwoBytes 12
flags_place (ManagedRegisterRelative offset type_index register attributes name) = TwoBytes 18
flags_place says = NoFlags

-- the number of so many bytes at one, 0 where they aren't there
abbrev pub number_there : List ℕ → ℕ → ℕ → ℕ
number_there b at size = if nat_le (at + size) (length b) then number b at size else 0

abbrev pub flags_at : List ℕ → FlagsPlace → ℕ
flags_at b NoFlags = 0
flags_at b (OneByte at) = number_there b at 1
flags_at b (TwoBytes at) = number_there b at 2
flags_at b (FourBytes at) = number_there b at 4

-- ---- rows

-- what a contract sees of a row
pub record RecordRow : Type 0 where
  pub name : List ℕ
  pub form : ℕ
  pub type_index : ℕ
  pub flags : ℕ
  pub stored : StorageNumbers
  pub place : Option PdbInternalSectionOffset
  pub size : ℕ
  pub part : Option ℕ

abbrev pub record_row : List ℕ → Says → RecordRow
record_row b says = record {
  name = record_name says;
  form = record_form says;
  type_index = record_type says;
  flags = flags_at b (flags_place says);
  stored = record_storage says;
  place = record_place says;
  size = record_size says;
  part = record_part says;
}

abbrev pub offset_or_zero : Option PdbInternalSectionOffset → ℕ
offset_or_zero None = 0
offset_or_zero (Some place) = place.offset

abbrev pub section_or_zero : Option PdbInternalSectionOffset → ℕ
section_or_zero None = 0
section_or_zero (Some place) = place.section

-- a row has all that is said, each in its field
pub record IsRecordRow (row : PdbRecord) (says : RecordRow) : Type 0 where
  pub name : row.name.now ≡ says.name
  pub form : row.form ≡ says.form
  pub type_index : row.type_index ≡ says.type_index
  pub flags : row.flags ≡ says.flags
  pub location : row.location ≡ says.stored.location
  pub number : row.number ≡ says.stored.number
  pub displacement : row.displacement ≡ says.stored.displacement
  pub offset : row.offset ≡ offset_or_zero says.place
  pub section : row.section ≡ section_or_zero says.place
  pub has_place : row.has_place ≡ told_of (is_some says.place)
  pub size : row.size ≡ says.size
  pub part : row.part ≡ unwrap_or says.part 0
  pub is_part : row.is_part ≡ told_of (is_some says.part)

-- what is read of a record's bytes, of which its kind takes two
abbrev pub record_in : List ℕ → Result Says Error
record_in b = if nat_lt (length b) 2 then Err SymbolTooShort else further_at b

-- what a call put of a record, or its error's number
abbrev pub RecordTold : List ℕ → ℕ → PdbRecord → PdbRecord → Result Says Error → Type 0
RecordTold b code old new (Ok says) = (code ≡ 0) × IsRecordRow new (record_row b says)
RecordTold b code old new (Err e) = (code ≡ number_of e) × (new ≡ old)

-- ---- gaps

abbrev pub gap_row : AddressGap → PdbGap
gap_row g = record { start = g.start; size = g.len }

-- the gaps of the code in which a range holds
abbrev pub record_gaps : Says → List AddressGap
record_gaps (DefRange program range gaps) = gaps
record_gaps (DefRangeSubfield program offset_in_parent range gaps) = gaps
record_gaps (DefRangeRegister register maybe range gaps) = gaps
record_gaps (DefRangeFramePointerRelative offset range gaps) = gaps
record_gaps (DefRangeSubfieldRegister register maybe offset_in_parent range gaps) = gaps
record_gaps (DefRangeRegisterRelative register subfield offset range gaps) = gaps
record_gaps says = []

abbrev pub gaps_in_record : List ℕ → Result (Left AddressGap) Error
gaps_in_record b = record_in b >>= λ says. Ok (whole_list (record_gaps says))
