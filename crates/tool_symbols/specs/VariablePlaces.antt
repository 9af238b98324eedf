-- Where variables are, in words.
use Rattle.std.specs.Prelude.{ℕ, ℤ, unsigned_abs, ◌+◌, ◌%◌, ◌^◌, ◌==◌, ◌||◌, ◌&&◌, nat_le, Bool, true, false, if◌then◌else◌, List, [], ◌++◌, flat_map, codes, Option, Some, None, Result, Ok, Err}
use Rattle.std.specs.Fmt.{decimal}
use Rattle.std.specs.Int.{is_negative}
use Rattle.pdb.specs.Data.{Data}
use Rattle.pdb.specs.Data.Data.{Local}
use Rattle.pdb.specs.Error.{Error}
use Rattle.pdb.specs.PdbInternalSectionOffset.{PdbInternalSectionOffset}
use Rattle.pdb_base.specs.declared.index.Register.{Register}
use Rattle.pdb_records.specs.RangePieces.{pieces_of}
use Rattle.pdb_records.specs.RecordReading.{further_at}
use Rattle.pdb_records.specs.RecordSays.{Says}
use Rattle.pdb_records.specs.RecordSays.Says.{DefRange, DefRangeSubfield, DefRangeRegister, DefRangeFramePointerRelative, DefRangeSubfieldRegister, DefRangeFramePointerRelativeFullScope, DefRangeRegisterRelative, FileStatic}
use Rattle.pdb_records.specs.declared.lists.AddressGap.{AddressGap}
use Rattle.pdb_records.specs.declared.lists.AddressRange.{AddressRange}
use Rattle.pdb_records.specs.declared.machine.Machine.{Machine}
use Rattle.pdb_records.specs.declared.machine.Machine.TheVariants as on
use Rattle.pdb_records.specs.declared.pieces.Piece.{Piece}
use Rattle.tool_symbols.specs.Depth.{blanks}
use Rattle.tool_fields.specs.RecordValues.{frame_register_on}
use Rattle.tool_symbols.specs.declared.scope_frames.Bases.{Bases}
use Rattle.tool_fields.specs.Values.{place_text}
use Rattle.tool_fields.specs.ValueTexts.{register_on}

-- ---- a place in memory

-- an offset behind a register's name: `+N`, `-N`, and nothing for 0
abbrev pub sign_text : Bool → List ℕ
sign_text true = codes "-"
sign_text false = codes "+"

abbrev pub offset_text : ℤ → List ℕ
offset_text offset = if unsigned_abs offset == 0 then [] else sign_text (is_negative offset) ++ decimal (unsigned_abs offset)

-- at an offset from the value of a register
abbrev pub memory_text : List ℕ → ℤ → List ℕ
memory_text register offset = codes "[" ++ register ++ offset_text offset ++ codes "]"

-- the base pointer of a machine
abbrev pub base_pointer : Option Machine → List ℕ
base_pointer (Some on.X86) = codes "ebp"
base_pointer (Some on.X64) = codes "rbp"
base_pointer machine = codes "frame"

-- the register of a frame that has this encoding
abbrev pub frame_text : Option Machine → Option Register → List ℕ
frame_text machine None = codes "frame"
frame_text machine (Some register) = register_on machine register

-- at an offset from the register of the frame
abbrev pub in_frame : Option Machine → ℕ → ℤ → List ℕ
in_frame machine base offset = memory_text (frame_text machine (frame_register_on machine base)) offset

-- a part of a variable, by its offset in it
abbrev pub part_text : ℕ → List ℕ
part_text offset = codes "+" ++ decimal offset ++ codes ":"

abbrev pub part_if : Option ℕ → List ℕ
part_if None = []
part_if (Some offset) = part_text offset

abbrev pub program_text : ℕ → List ℕ
program_text program = codes "program:" ++ decimal program

-- where a record of a range says that a variable is, or a part of one; nothing for other records
abbrev pub where_text : Option Machine → ℕ → Says → List ℕ
where_text machine base (DefRange program range gaps) = program_text program
where_text machine base (DefRangeSubfield program offset_in_parent range gaps) = part_text offset_in_parent ++ program_text program
where_text machine base (DefRangeRegister register maybe range gaps) = register_on machine register
where_text machine base (DefRangeFramePointerRelative offset range gaps) = in_frame machine base offset
where_text machine base (DefRangeSubfieldRegister register maybe offset_in_parent range gaps) = part_text offset_in_parent ++ register_on machine register
where_text machine base (DefRangeFramePointerRelativeFullScope offset) = in_frame machine base offset
where_text machine base (DefRangeRegisterRelative register subfield offset range gaps) = part_if subfield ++ memory_text (register_on machine register) offset
where_text machine base says = []

-- ---- in which code

pub data Extent : Type 0 where
  Nowhere : Extent
  Everywhere : Extent
  Within : (range : AddressRange) (gaps : List AddressGap) → Extent

-- in which code a record of a range holds
abbrev pub extent_of : Says → Extent
extent_of (DefRange program range gaps) = Within range gaps
extent_of (DefRangeSubfield program offset_in_parent range gaps) = Within range gaps
extent_of (DefRangeRegister register maybe range gaps) = Within range gaps
extent_of (DefRangeFramePointerRelative offset range gaps) = Within range gaps
extent_of (DefRangeSubfieldRegister register maybe offset_in_parent range gaps) = Within range gaps
extent_of (DefRangeFramePointerRelativeFullScope offset) = Everywhere
extent_of (DefRangeRegisterRelative register subfield offset range gaps) = Within range gaps
extent_of says = Nowhere

-- where a piece of a range stands that starts at this place; offsets have 32 bits
abbrev pub place_of : PdbInternalSectionOffset → Piece → PdbInternalSectionOffset
place_of start piece = record { offset = (start.offset + piece.start) % 2 ^ 32; section = start.section }

abbrev pub piece_line : ℕ → List ℕ → PdbInternalSectionOffset → Piece → List ℕ
piece_line depth word start piece = blanks depth ++ word ++ codes " " ++ place_text (place_of start piece) ++ codes " " ++ decimal piece.len ++ codes "\n"

-- the lines of a range's pieces; one line alone where it holds everywhere in the scope
abbrev pub extent_lines : ℕ → List ℕ → Extent → List ℕ
extent_lines depth word Nowhere = []
extent_lines depth word Everywhere = blanks depth ++ word ++ codes "\n"
extent_lines depth word (Within range gaps) = flat_map (piece_line depth word range.start) (pieces_of range.len gaps)

unfoldable pub range_lines : Option Machine → ℕ → ℕ → Says → List ℕ
range_lines machine base depth says = extent_lines depth (where_text machine base says) (extent_of says)

-- ---- the records that stand behind a variable

-- a kind of records of ranges
abbrev pub is_of_ranges : ℕ → Bool
is_of_ranges kind = (nat_le 0x113f kind && nat_le kind 0x1145) || kind == 0x1150 || kind == 0x1157

-- whether a variable that has ranges is a parameter; none for other symbols
abbrev pub parameter_in : Result Data Error → Option Bool
parameter_in (Ok (Local type_index flags name)) = Some flags.isparam
parameter_in r = None

abbrev pub further_parameter_in : Result Says Error → Option Bool
further_parameter_in (Ok (FileStatic type_index module_file flags name)) = Some flags.param
further_parameter_in r = None

-- the base from which a variable counts: another one for parameters
abbrev pub base_of : Bases → Bool → ℕ
base_of bases true = bases.parameter
base_of bases false = bases.local

-- the lines of a record of a range; nothing where it can't be read, or doesn't stand behind a variable
abbrev pub read_range_lines : Option Machine → ℕ → ℕ → Result Says Error → List ℕ
read_range_lines machine base depth (Ok says) = range_lines machine base depth says
read_range_lines machine base depth (Err e) = []

abbrev pub behind_lines : Option Machine → Bases → ℕ → Option Bool → List ℕ → List ℕ
behind_lines machine bases depth None b = []
behind_lines machine bases depth (Some parameter) b = read_range_lines machine (base_of bases parameter) depth (further_at b)
