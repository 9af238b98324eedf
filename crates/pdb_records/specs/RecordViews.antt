-- What contracts see of lists, of their iterators and of records.
use Rattle.std.specs.Prelude.{◌≡◌, ℕ, List, [], ◌∷◌, Option, Some, None}
use Rattle.pdb_base.specs.Left.{Left}
use Rattle.pdb_base.specs.Text.{name_bytes}
use Rattle.pdb_base.specs.declared.text.RawString.{RawString}
use Rattle.pdb_records.specs.declared.lists.AddressGap.{AddressGap}
use Rattle.pdb_records.specs.declared.lists.Gaps.{Gaps}
use Rattle.pdb_records.specs.declared.lists.GapsIter.{GapsIter}
use Rattle.pdb_records.specs.declared.lists.Numbers.{Numbers}
use Rattle.pdb_records.specs.declared.lists.NumbersIter.{NumbersIter}
use Rattle.pdb_records.specs.declared.strings.Strings.{Strings}
use Rattle.pdb_records.specs.declared.strings.StringsIter.{StringsIter}
use Rattle.pdb_records.specs.declared.shared.PointerTag.{PointerTag}
use Rattle.pdb_records.specs.declared.shared.PointerTags.{PointerTags}
use Rattle.pdb_records.specs.declared.shared.PointerTagsIter.{PointerTagsIter}
use Rattle.pdb_records.specs.declared.record.Record.{Record}
use Rattle.pdb_records.specs.declared.record.Record.TheVariants as rust
use Rattle.pdb_records.specs.RecordLists.{items_from, whole_items, gap_at, number_of_four, gaps_of, numbers_of, tag_at, tags_of, names_from}
use Rattle.pdb_records.specs.RecordSays.{Says}
use Rattle.pdb_records.specs.RecordSays.Says.{FrameProcedure, BasePointerRelative, DefRange, DefRangeSubfield, DefRangeRegister, DefRangeFramePointerRelative, DefRangeSubfieldRegister, DefRangeFramePointerRelativeFullScope, DefRangeRegisterRelative, FileStatic, FrameCookieSays, CallSite, HeapAllocation, FunctionList, Jumps, CoffGroup, Section, EnvironmentBlock, Annotation, Pogo, HotPatchFunction, ManagedProcedure, TokenReference, Oem, LocalGroupShared, PointerTagMap, RegisterRelativeOld, With, TablePath, TypeReference, MiniReference, Discarded, Compile, Search, EndOfArguments, Slot, ManagedSlot, ManagedFrameRelative, ManagedRegister, ManagedRegisterRelative}

-- ---- lists

-- the bytes in which gaps, or numbers, stand
abbrev pub gap_bytes : Gaps → List ℕ
gap_bytes g = g.bytes.now

abbrev pub number_bytes : Numbers → List ℕ
number_bytes n = n.bytes.now

-- the gaps, the numbers and the names of a list
abbrev pub gaps_in : Gaps → List AddressGap
gaps_in g = gaps_of (gap_bytes g)

abbrev pub numbers_in_list : Numbers → List ℕ
numbers_in_list n = numbers_of (number_bytes n)

abbrev pub strings_in : Strings → List (List ℕ)
strings_in s = names_from s.count s.bytes.now 0

abbrev pub tag_bytes : PointerTags → List ℕ
tag_bytes t = t.bytes.now

abbrev pub tags_in : PointerTags → List PointerTag
tags_in t = tags_of (tag_bytes t)

-- the bytes of whole gaps, numbers and tags, which say all that the lists say
abbrev pub whole_gaps : Gaps → List ℕ
whole_gaps g = whole_items 4 (gap_bytes g)

abbrev pub whole_numbers : Numbers → List ℕ
whole_numbers n = whole_items 4 (number_bytes n)

abbrev pub whole_tags : PointerTags → List ℕ
whole_tags t = whole_items 8 (tag_bytes t)

-- those that an iterator has left
abbrev pub gaps_left : GapsIter → Left AddressGap
gaps_left it = record { items = items_from 4 gap_at it.bytes.now it.at; fault = None }

abbrev pub numbers_left : NumbersIter → Left ℕ
numbers_left it = record { items = items_from 4 number_of_four it.bytes.now it.at; fault = None }

abbrev pub tags_left : PointerTagsIter → Left PointerTag
tags_left it = record { items = items_from 8 tag_at it.bytes.now it.at; fault = None }

abbrev pub strings_left : StringsIter → Left (List ℕ)
strings_left it = record { items = names_from it.count it.buffer.bytes it.buffer.place; fault = None }

-- the first of names, and those behind it; or none
abbrev pub TakesName : List (List ℕ) → Option RawString → List (List ℕ) → Type 0
TakesName old None new = (old ≡ []) × (new ≡ [])
TakesName old (Some name) new = old ≡ name_bytes name ∷ new

-- ---- records

abbrev pub shown_record : Record → Says
shown_record (rust.FrameProcedure s) = FrameProcedure s
shown_record (rust.BasePointerRelative s) = BasePointerRelative s.offset s.type_index (name_bytes s.name)
shown_record (rust.DefRange s) = DefRange s.program s.range (gaps_in s.gaps)
shown_record (rust.DefRangeSubfield s) = DefRangeSubfield s.program s.offset_in_parent s.range (gaps_in s.gaps)
shown_record (rust.DefRangeRegister s) = DefRangeRegister s.register s.maybe s.range (gaps_in s.gaps)
shown_record (rust.DefRangeFramePointerRelative s) = DefRangeFramePointerRelative s.offset s.range (gaps_in s.gaps)
shown_record (rust.DefRangeSubfieldRegister s) = DefRangeSubfieldRegister s.register s.maybe s.offset_in_parent s.range (gaps_in s.gaps)
shown_record (rust.DefRangeFramePointerRelativeFullScope s) = DefRangeFramePointerRelativeFullScope s.offset
shown_record (rust.DefRangeRegisterRelative s) = DefRangeRegisterRelative s.register s.subfield s.offset s.range (gaps_in s.gaps)
shown_record (rust.FileStatic s) = FileStatic s.type_index s.module_file s.flags (name_bytes s.name)
shown_record (rust.FrameCookie s) = FrameCookieSays s
shown_record (rust.CallSiteInfo s) = CallSite s
shown_record (rust.HeapAllocationSite s) = HeapAllocation s
shown_record (rust.FunctionList s) = FunctionList s.relation (numbers_in_list s.functions) (numbers_in_list s.invocations)
shown_record (rust.JumpTable s) = Jumps s
shown_record (rust.CoffGroup s) = CoffGroup s.len s.characteristics s.offset (name_bytes s.name)
shown_record (rust.Section s) = Section (record {
  section = s.section;
  alignment = s.alignment;
  address = s.address;
  len = s.len;
  characteristics = s.characteristics;
  name = name_bytes s.name;
})
shown_record (rust.EnvironmentBlock s) = EnvironmentBlock s.rev (strings_in s.strings)
shown_record (rust.Annotation s) = Annotation s.offset (strings_in s.strings)
shown_record (rust.PogoData s) = Pogo s
shown_record (rust.HotPatchFunction s) = HotPatchFunction s.id (name_bytes s.name)
shown_record (rust.ManagedProcedure s) = ManagedProcedure (record {
  global = s.global;
  parent = s.parent;
  end = s.end;
  next = s.next;
  len = s.len;
  dbg_start_offset = s.dbg_start_offset;
  dbg_end_offset = s.dbg_end_offset;
  token = s.token;
  offset = s.offset;
  flags = s.flags;
  return_register = s.return_register;
  name = name_bytes s.name;
})
shown_record (rust.TokenReference s) = TokenReference s.sum_name s.symbol_index s.«module» (name_bytes s.name)
shown_record (rust.Oem s) = Oem s.id.now s.type_index s.content.now
shown_record (rust.LocalGroupShared s) = LocalGroupShared s.type_index s.flags s.data_slot s.data_offset (name_bytes s.name)
shown_record (rust.PointerTagMap s) = PointerTagMap (tags_in s.tags)
shown_record (rust.RegisterRelativeOld s) = RegisterRelativeOld s.offset s.type_index s.register (name_bytes s.name)
shown_record (rust.With s) = With s.parent s.end s.len s.offset (name_bytes s.name)
shown_record (rust.VirtualTablePath s) = TablePath s
shown_record (rust.ModuleTypeReference s) = TypeReference s
shown_record (rust.MiniReference s) = MiniReference s.value s.«module» s.flags (name_bytes s.name)
shown_record (rust.Discarded s) = Discarded s.why s.file s.line s.content.now
shown_record (rust.Compile s) = Compile s.cpu s.language s.flags (name_bytes s.name)
shown_record (rust.StartSearch s) = Search s
shown_record rust.EndOfArguments = EndOfArguments
shown_record (rust.Slot s) = Slot s.param s.slot s.type_index (name_bytes s.name)
shown_record (rust.ManagedSlot s) = ManagedSlot s.slot s.type_index s.attributes (name_bytes s.name)
shown_record (rust.ManagedFrameRelative s) = ManagedFrameRelative s.offset s.type_index s.attributes (name_bytes s.name)
shown_record (rust.ManagedRegister s) = ManagedRegister s.type_index s.attributes s.register (name_bytes s.name)
shown_record (rust.ManagedRegisterRelative s) = ManagedRegisterRelative s.offset s.type_index s.register s.attributes (name_bytes s.name)
