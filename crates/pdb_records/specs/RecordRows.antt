-- Which kind has which form, among the further records.
use Rattle.std.specs.Prelude.{ℕ, List, [], ◌∷◌, Option, Some, None, nat_lt, if◌then◌else◌}
use Rattle.pdb_symbols.specs.Kinds.{is_in}
use Rattle.pdb_records.specs.declared.form.RecordForm.{RecordForm}
use Rattle.pdb_records.specs.declared.form.RecordForm.TheVariants.{FrameProcedure, BasePointerRelative, DefRange, DefRangeSubfield, DefRangeRegister, DefRangeFramePointerRelative, DefRangeSubfieldRegister, DefRangeFramePointerRelativeFullScope, DefRangeRegisterRelative, FileStatic, FrameCookie, CallSiteInfo, HeapAllocationSite, FunctionList, JumpTable, CoffGroup, Section, EnvironmentBlock, Annotation, PogoData, HotPatchFunction, ManagedProcedure, TokenReference, Oem, LocalGroupShared, PointerTagMap, RegisterRelativeOld, With, VirtualTablePath, ModuleTypeReference, MiniReference, Discarded, Compile, StartSearch, EndOfArguments, Slot, ManagedSlot, ManagedFrameRelative, ManagedRegister, ManagedRegisterRelative}

-- the form of a kind by a table of rows
abbrev pub record_row_in : List (List ℕ × RecordForm) → ℕ → Option RecordForm
record_row_in [] kind = None
record_row_in ((kinds, f) ∷ rows) kind = if is_in kinds kind then Some f else record_row_in rows kind

-- kinds below 0x1100
abbrev pub older_record_rows : List (List ℕ × RecordForm)
older_record_rows =
    (0x1012 ∷ [], FrameProcedure) ∷
    (0x1006 ∷ [], BasePointerRelative) ∷
    (0x1019 ∷ [], Annotation) ∷
    (0x101a ∷ 0x101b ∷ [], ManagedProcedure) ∷
    (0x0404 ∷ [], Oem) ∷
    (0x100d ∷ [], RegisterRelativeOld) ∷
    (0x0208 ∷ [], With) ∷
    (0x100c ∷ [], VirtualTablePath) ∷
    (0x0001 ∷ [], Compile) ∷
    (0x0005 ∷ [], StartSearch) ∷
    (0x000a ∷ [], EndOfArguments) ∷
    (0x1017 ∷ 0x1018 ∷ [], Slot) ∷
    (0x1024 ∷ [], ManagedSlot) ∷
    (0x1022 ∷ [], ManagedFrameRelative) ∷
    (0x1023 ∷ [], ManagedRegister) ∷
    (0x1026 ∷ [], ManagedRegisterRelative) ∷
    []

-- kinds from 0x1100 to 0x113f
abbrev pub middle_record_rows : List (List ℕ × RecordForm)
middle_record_rows =
    (0x110b ∷ [], BasePointerRelative) ∷
    (0x1129 ∷ [], TokenReference) ∷
    (0x112a ∷ 0x112b ∷ [], ManagedProcedure) ∷
    (0x1136 ∷ [], Section) ∷
    (0x1137 ∷ [], CoffGroup) ∷
    (0x1139 ∷ [], CallSiteInfo) ∷
    (0x113a ∷ [], FrameCookie) ∷
    (0x113d ∷ [], EnvironmentBlock) ∷
    (0x113f ∷ [], DefRange) ∷
    (0x1104 ∷ [], With) ∷
    (0x113b ∷ [], Discarded) ∷
    (0x111a ∷ 0x111b ∷ [], Slot) ∷
    (0x1120 ∷ [], ManagedSlot) ∷
    (0x111e ∷ 0x112e ∷ [], ManagedFrameRelative) ∷
    (0x111f ∷ 0x112f ∷ [], ManagedRegister) ∷
    (0x1122 ∷ 0x1130 ∷ [], ManagedRegisterRelative) ∷
    []

-- the others
abbrev pub newer_record_rows : List (List ℕ × RecordForm)
newer_record_rows =
    (0x1140 ∷ [], DefRangeSubfield) ∷
    (0x1141 ∷ [], DefRangeRegister) ∷
    (0x1142 ∷ [], DefRangeFramePointerRelative) ∷
    (0x1143 ∷ [], DefRangeSubfieldRegister) ∷
    (0x1144 ∷ [], DefRangeFramePointerRelativeFullScope) ∷
    (0x1145 ∷ [], DefRangeRegisterRelative) ∷
    (0x1153 ∷ [], FileStatic) ∷
    (0x1159 ∷ [], JumpTable) ∷
    (0x115a ∷ 0x115b ∷ 0x1168 ∷ [], FunctionList) ∷
    (0x115c ∷ [], PogoData) ∷
    (0x115e ∷ [], HeapAllocationSite) ∷
    (0x1169 ∷ [], HotPatchFunction) ∷
    (0x1154 ∷ [], LocalGroupShared) ∷
    (0x1158 ∷ [], PointerTagMap) ∷
    (0x115f ∷ [], ModuleTypeReference) ∷
    (0x1160 ∷ [], MiniReference) ∷
    []

-- the form of a kind
abbrev pub record_row : ℕ → Option RecordForm
record_row kind = if nat_lt kind 0x1100 then record_row_in older_record_rows kind else if nat_lt kind 0x1140 then record_row_in middle_record_rows kind else record_row_in newer_record_rows kind
