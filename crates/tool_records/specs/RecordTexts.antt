-- The texts of further records: each field as ` FIELD=VALUE`, in the order of the record's layout, and the name last.
use Rattle.std.specs.Prelude.{ℕ, Bool, List, [], ◌++◌, Option, codes}
use Rattle.std.specs.Fmt.{decimal, signed_decimal}
use Rattle.pdb_base.specs.declared.index.PdbInternalSectionOffset.{PdbInternalSectionOffset}
use Rattle.pdb_base.specs.declared.index.Register.{Register}
use Rattle.pdb_symbols.specs.declared.flags.ProcedureFlags.{ProcedureFlags}
use Rattle.pdb_records.specs.RecordSays.{Says}
use Rattle.pdb_records.specs.RecordSays.Says.{FrameProcedure, BasePointerRelative, DefRange, DefRangeSubfield, DefRangeRegister, DefRangeFramePointerRelative, DefRangeSubfieldRegister, DefRangeFramePointerRelativeFullScope, DefRangeRegisterRelative, FileStatic, FrameCookieSays, CallSite, HeapAllocation, FunctionList, Jumps, CoffGroup, Section, EnvironmentBlock, Annotation, Pogo, HotPatchFunction, ManagedProcedure, TokenReference, Oem, LocalGroupShared, PointerTagMap, RegisterRelativeOld, With, TablePath, TypeReference, MiniReference, Discarded, Compile, Search, EndOfArguments, Slot, ManagedSlot, ManagedFrameRelative, ManagedRegister, ManagedRegisterRelative}
use Rattle.pdb_records.specs.declared.frames.FrameProcedure.{FrameProcedure as FrameProcedureSays}
use Rattle.pdb_records.specs.declared.lists.AddressGap.{AddressGap}
use Rattle.pdb_records.specs.declared.lists.AddressRange.{AddressRange}
use Rattle.pdb_records.specs.declared.machine.Machine.{Machine}
use Rattle.pdb_records.specs.declared.managed_variables.Attributes.{Attributes}
use Rattle.pdb_text.specs.Digits.{hex}
use Rattle.tool_fields.specs.FieldTexts.{body_fields, field, offset_field, place_field, register_field, reference_fields, scope_fields, type_field}
use Rattle.tool_fields.specs.Flags.{procedure_flags}
use Rattle.tool_records.specs.RecordFlagTexts.{environment_flags, frame_flags, mini_reference_flags, module_type_flags, variable_flags}
use Rattle.tool_fields.specs.RecordValues.{base_text, cookie_text, discard_text, entry_text, gap_text, joined_texts, range_text, string_text, tag_text}
use Rattle.tool_fields.specs.Values.{behind_blank, optional_text, place_text}
use Rattle.tool_fields.specs.ValueTexts.{bool_text, bytes_text, optional_index_text, register_on}

-- ---- fields that several layouts have

abbrev pub maybe_field : Bool → List ℕ
maybe_field maybe = field (codes "maybe") (bool_text maybe)

abbrev pub strings_field : List (List ℕ) → List ℕ
strings_field strings = field (codes "strings") (joined_texts string_text strings)

unfoldable pub ranged_fields : AddressRange → List AddressGap → List ℕ
ranged_fields range gaps = field (codes "range") (range_text range) ++ field (codes "gaps") (joined_texts gap_text gaps)

unfoldable pub attribute_fields : Attributes → List ℕ
attribute_fields a = field (codes "live") (place_text a.live) ++ field (codes "flags") (variable_flags a.flags)

-- the sizes of a frame, and the registers from which its variables count
unfoldable pub frame_sizes_fields : FrameProcedureSays → List ℕ
frame_sizes_fields s =
    field (codes "frame_bytes") (decimal s.frame_bytes) ++ field (codes "padding_bytes") (decimal s.padding_bytes)
    ++ field (codes "padding_offset") (decimal s.padding_offset) ++ field (codes "saved_register_bytes") (decimal s.saved_register_bytes)

unfoldable pub bases_fields : Option Machine → FrameProcedureSays → List ℕ
bases_fields machine s = field (codes "local_base") (base_text machine s.local_base) ++ field (codes "param_base") (base_text machine s.parameter_base)

-- a section's number and its alignment; its address, and its length
unfoldable pub section_fields : ℕ → ℕ → ℕ → ℕ → List ℕ
section_fields section alignment address len =
    field (codes "section") (decimal section) ++ field (codes "alignment") (decimal alignment)
    ++ field (codes "address") (hex 8 address) ++ field (codes "len") (decimal len)

-- a managed procedure's token, where it is, its flags, and the register of what it returns
unfoldable pub managed_fields : Option Machine → ℕ → PdbInternalSectionOffset → ProcedureFlags → Register → List ℕ
managed_fields machine token offset flags return_register =
    field (codes "token") (hex 8 token) ++ place_field offset ++ field (codes "flags") (procedure_flags flags)
    ++ field (codes "return_register") (register_on machine return_register)

-- how many instructions a procedure has, and how many of them are live
unfoldable pub instruction_fields : ℕ → ℕ → List ℕ
instruction_fields instructions live = field (codes "instructions") (decimal instructions) ++ field (codes "live_instructions") (decimal live)

-- ---- the text of each layout, with registers by their names on a machine

abbrev pub says_text : Option Machine → Says → List ℕ
says_text machine (FrameProcedure s) =
    frame_sizes_fields s ++ field (codes "exception_handler") (place_text s.exception_handler) ++ field (codes "flags") (frame_flags s.flags) ++ bases_fields machine s
says_text machine (BasePointerRelative offset type_index name) = offset_field offset ++ type_field type_index ++ behind_blank name
says_text machine (DefRange program range gaps) = field (codes "program") (decimal program) ++ ranged_fields range gaps
says_text machine (DefRangeSubfield program offset_in_parent range gaps) =
    field (codes "program") (decimal program) ++ field (codes "offset_in_parent") (decimal offset_in_parent) ++ ranged_fields range gaps
says_text machine (DefRangeRegister register maybe range gaps) = register_field machine register ++ maybe_field maybe ++ ranged_fields range gaps
says_text machine (DefRangeFramePointerRelative offset range gaps) = offset_field offset ++ ranged_fields range gaps
says_text machine (DefRangeSubfieldRegister register maybe offset_in_parent range gaps) =
    register_field machine register ++ maybe_field maybe ++ field (codes "offset_in_parent") (decimal offset_in_parent) ++ ranged_fields range gaps
says_text machine (DefRangeFramePointerRelativeFullScope offset) = offset_field offset
says_text machine (DefRangeRegisterRelative register subfield offset range gaps) =
    register_field machine register ++ field (codes "subfield") (optional_text subfield) ++ offset_field offset ++ ranged_fields range gaps
says_text machine (FileStatic type_index module_file flags name) =
    type_field type_index ++ field (codes "module_file") (decimal module_file) ++ field (codes "flags") (variable_flags flags) ++ behind_blank name
says_text machine (FrameCookieSays s) =
    offset_field s.offset ++ register_field machine s.register ++ field (codes "cookie") (cookie_text s.cookie) ++ field (codes "flags") (decimal s.flags)
says_text machine (CallSite s) = place_field s.offset ++ type_field s.type_index
says_text machine (HeapAllocation s) = place_field s.offset ++ field (codes "instruction_bytes") (decimal s.instruction_bytes) ++ type_field s.type_index
says_text machine (FunctionList relation functions invocations) =
    field (codes "functions") (joined_texts (hex 8) functions) ++ field (codes "invocations") (joined_texts decimal invocations)
says_text machine (Jumps s) =
    field (codes "base") (place_text s.base) ++ field (codes "entry_kind") (entry_text s.entry_kind)
    ++ field (codes "branch") (place_text s.branch) ++ field (codes "table") (place_text s.table) ++ field (codes "entries") (decimal s.entries)
says_text machine (CoffGroup len characteristics offset name) =
    field (codes "len") (decimal len) ++ field (codes "characteristics") (hex 8 characteristics) ++ place_field offset ++ behind_blank name
says_text machine (Section s) = section_fields s.section s.alignment s.address s.len ++ field (codes "characteristics") (hex 8 s.characteristics) ++ behind_blank s.name
says_text machine (EnvironmentBlock rev strings) = field (codes "flags") (environment_flags rev) ++ strings_field strings
says_text machine (Annotation offset strings) = place_field offset ++ strings_field strings
says_text machine (Pogo s) =
    field (codes "invocations") (decimal s.invocations) ++ field (codes "dynamic_count") (signed_decimal s.dynamic_count)
    ++ instruction_fields s.instructions s.live_instructions
says_text machine (HotPatchFunction id name) = field (codes "id") (hex 8 id.0) ++ behind_blank name
says_text machine (ManagedProcedure s) = scope_fields s.parent s.end s.next ++ body_fields s.len s.dbg_start_offset s.dbg_end_offset ++ managed_fields machine s.token s.offset s.flags s.return_register ++ behind_blank s.name
says_text machine (TokenReference sum_name symbol_index of_module name) = reference_fields sum_name symbol_index of_module ++ behind_blank name
says_text machine (Oem id type_index content) = field (codes "oem") (bytes_text id) ++ type_field type_index ++ field (codes "data") (bytes_text content)
says_text machine (LocalGroupShared type_index flags data_slot data_offset name) =
    type_field type_index ++ field (codes "flags") (variable_flags flags)
    ++ field (codes "data_slot") (decimal data_slot) ++ field (codes "data_offset") (decimal data_offset) ++ behind_blank name
says_text machine (PointerTagMap tags) = field (codes "tags") (joined_texts tag_text tags)
says_text machine (RegisterRelativeOld offset type_index register name) = offset_field offset ++ type_field type_index ++ register_field machine register ++ behind_blank name
says_text machine (With parent end len offset name) =
    field (codes "parent") (optional_index_text parent) ++ field (codes "end") (hex 8 end.0) ++ field (codes "len") (decimal len) ++ place_field offset ++ behind_blank name
says_text machine (TablePath s) = field (codes "root") (hex 8 s.root.0) ++ field (codes "path") (hex 8 s.path.0) ++ place_field s.offset
says_text machine (TypeReference s) = field (codes "flags") (module_type_flags s.flags) ++ field (codes "word0") (decimal s.word0) ++ field (codes "word1") (decimal s.word1)
says_text machine (MiniReference value of_module flags name) =
    field (codes "value") (hex 8 value) ++ field (codes "module") (optional_text of_module) ++ field (codes "flags") (mini_reference_flags flags) ++ behind_blank name
says_text machine (Discarded why file line content) =
    field (codes "why") (discard_text why) ++ field (codes "file") (decimal file) ++ field (codes "line") (decimal line) ++ field (codes "data") (bytes_text content)
says_text machine (Compile cpu language flags name) =
    field (codes "cpu") (decimal cpu) ++ field (codes "language") (decimal language) ++ field (codes "flags") (decimal flags) ++ behind_blank name
says_text machine (Search s) = field (codes "start") (hex 8 s.start.0) ++ field (codes "section") (decimal s.section)
says_text machine EndOfArguments = []
says_text machine (Slot param slot type_index name) = field (codes "slot") (decimal slot) ++ type_field type_index ++ behind_blank name
says_text machine (ManagedSlot slot type_index attributes name) = field (codes "slot") (decimal slot) ++ type_field type_index ++ attribute_fields attributes ++ behind_blank name
says_text machine (ManagedFrameRelative offset type_index attributes name) = offset_field offset ++ type_field type_index ++ attribute_fields attributes ++ behind_blank name
says_text machine (ManagedRegister type_index attributes register name) = type_field type_index ++ attribute_fields attributes ++ register_field machine register ++ behind_blank name
says_text machine (ManagedRegisterRelative offset type_index register attributes name) =
    offset_field offset ++ type_field type_index ++ register_field machine register ++ attribute_fields attributes ++ behind_blank name
