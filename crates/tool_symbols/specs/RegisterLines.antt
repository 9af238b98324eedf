-- The lines in `symbols` of ranges of code in which a variable is in a register, by what stands at the offsets of their
-- records.
use Rattle.std.specs.Prelude.{ℕ, Bool, List, ◌++◌, codes, drop, Option}
use Rattle.std.specs.Fmt.{decimal}
use Rattle.pdb.specs.Fields.{number}
use Rattle.pdb.specs.PdbInternalSectionOffset.{PdbInternalSectionOffset}
use Rattle.pdb_symbols.specs.Flags.{has}
use Rattle.pdb_records.specs.RecordLists.{gaps_of}
use Rattle.pdb_records.specs.declared.lists.AddressGap.{AddressGap}
use Rattle.pdb_records.specs.declared.machine.Machine.{Machine}
use Rattle.pdb_text.specs.Digits.{hex}
use Rattle.tool_fields.specs.FieldTexts.{field, label}
use Rattle.tool_fields.specs.RecordValues.{gap_text, joined_texts}
use Rattle.tool_fields.specs.Values.{place_text}
use Rattle.tool_fields.specs.ValueTexts.{bool_text, register_on}

-- the line up to the register
unfoldable pub register_head : ℕ → List ℕ
register_head index = hex 8 index ++ codes " S_DEFRANGE_REGISTER" ++ label (codes "register")

-- behind the register, up to the range's length
unfoldable pub maybe_head : Bool → PdbInternalSectionOffset → List ℕ
maybe_head maybe start = field (codes "maybe") (bool_text maybe) ++ label (codes "range") ++ place_text start ++ codes "+"

-- the gaps, and the end of the line
unfoldable pub gaps_end : List AddressGap → List ℕ
gaps_end gaps = field (codes "gaps") (joined_texts gap_text gaps) ++ codes "\n"

-- where the range starts
abbrev pub start_at : List ℕ → PdbInternalSectionOffset
start_at b = record { offset = number b 6 4; section = number b 10 2 }

-- the line behind the register
unfoldable pub range_tail : List ℕ → List ℕ
range_tail b = maybe_head (has (number b 4 2) 1) (start_at b) ++ (decimal (number b 12 2) ++ gaps_end (gaps_of (drop 14 b)))

-- the line behind its blanks
unfoldable pub register_range_text : Option Machine → ℕ → List ℕ → List ℕ
register_range_text machine index b = register_head index ++ (register_on machine (record { 0 = number b 2 2 }) ++ range_tail b)
