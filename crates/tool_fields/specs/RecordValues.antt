-- The values of fields of further records.
use Rattle.std.specs.Prelude.{ℕ, List, [], ◌∷◌, ◌++◌, Option, Some, None, codes, ◌==◌, if◌then◌else◌}
use Rattle.std.specs.Fmt.{decimal, signed_decimal}
use Rattle.pdb_base.specs.declared.index.Register.{Register}
use Rattle.pdb_records.specs.Machines.{frame_register_of}
use Rattle.pdb_records.specs.declared.code.EntryKind.{EntryKind}
use Rattle.pdb_records.specs.declared.code.EntryKind.TheVariants as entry
use Rattle.pdb_records.specs.declared.frames.CookieKind.{CookieKind}
use Rattle.pdb_records.specs.declared.frames.CookieKind.TheVariants as cookie
use Rattle.pdb_records.specs.declared.lists.AddressGap.{AddressGap}
use Rattle.pdb_records.specs.declared.lists.AddressRange.{AddressRange}
use Rattle.pdb_records.specs.declared.machine.Machine.{Machine}
use Rattle.pdb_records.specs.declared.older.Discard.{Discard}
use Rattle.pdb_records.specs.declared.older.Discard.TheVariants as discard
use Rattle.pdb_records.specs.declared.shared.PointerTag.{PointerTag}
use Rattle.pdb_text.specs.OneLine.{one_line}
use Rattle.tool_fields.specs.Values.{place_text}
use Rattle.tool_fields.specs.ValueTexts.{register_on}

-- ---- lists

-- the texts of items, each behind a comma
abbrev pub texts_behind : {A : Type 0} → (A → List ℕ) → List A → List ℕ
texts_behind text [] = []
texts_behind text (x ∷ xs) = codes "," ++ (text x ++ texts_behind text xs)

-- the texts of items joined by commas, `-` where there is none
abbrev pub joined_texts : {A : Type 0} → (A → List ℕ) → List A → List ℕ
joined_texts text [] = codes "-"
joined_texts text (x ∷ xs) = text x ++ texts_behind text xs

-- a gap: its start, counted from the range's start, and its length
abbrev pub gap_text : AddressGap → List ℕ
gap_text gap = decimal gap.start ++ codes "+" ++ decimal gap.len

-- a pointer's tag, and the offset of the record of its variable
abbrev pub tag_text : PointerTag → List ℕ
tag_text tag = decimal tag.tag ++ codes ":" ++ signed_decimal tag.record_offset

-- a string, on one line
abbrev pub string_text : List ℕ → List ℕ
string_text s = one_line s

-- ---- single values

-- where a range starts, and its length
abbrev pub range_text : AddressRange → List ℕ
range_text range = place_text range.start ++ codes "+" ++ decimal range.len

-- the register behind an encoded one of a frame
abbrev pub frame_register_on : Option Machine → ℕ → Option Register
frame_register_on None n = None
frame_register_on (Some machine) n = frame_register_of machine n

-- a register by its name; the encoded number where there is none
abbrev pub register_or : Option Machine → ℕ → Option Register → List ℕ
register_or machine n None = decimal n
register_or machine n (Some r) = register_on machine r

-- an encoded register of a frame, `-` for 0
abbrev pub base_text : Option Machine → ℕ → List ℕ
base_text machine n = if n == 0 then codes "-" else register_or machine n (frame_register_on machine n)

abbrev pub cookie_text : CookieKind → List ℕ
cookie_text cookie.Copy = codes "copy"
cookie_text cookie.XorStackPointer = codes "xor_sp"
cookie_text cookie.XorBasePointer = codes "xor_bp"
cookie_text cookie.XorR13 = codes "xor_r13"
cookie_text (cookie.Unknown n) = decimal n

abbrev pub entry_text : EntryKind → List ℕ
entry_text entry.Int1 = codes "int1"
entry_text entry.Uint1 = codes "uint1"
entry_text entry.Int2 = codes "int2"
entry_text entry.Uint2 = codes "uint2"
entry_text entry.Int4 = codes "int4"
entry_text entry.Uint4 = codes "uint4"
entry_text entry.Pointer = codes "pointer"
entry_text entry.Uint1Shl1 = codes "uint1_shl1"
entry_text entry.Uint2Shl1 = codes "uint2_shl1"
entry_text entry.Int1Shl1 = codes "int1_shl1"
entry_text entry.Int2Shl1 = codes "int2_shl1"
entry_text (entry.Unknown n) = decimal n

abbrev pub discard_text : Discard → List ℕ
discard_text discard.NotSaid = codes "unknown"
discard_text discard.NotSelected = codes "not_selected"
discard_text discard.NotReferenced = codes "not_referenced"
discard_text (discard.Unknown n) = decimal n
