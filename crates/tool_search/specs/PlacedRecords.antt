-- Records of a place and a name: what stands at their offsets, and which line it has.
use Rattle.std.specs.Prelude.{ℕ, List, [], Bool, Option, Some, None, Result, Ok, Err, length, nat_le, if◌then◌else◌}
use Rattle.pdb.specs.Error.{Error}
use Rattle.pdb.specs.Fields.{number, cstring_at}
use Rattle.pdb.specs.PdbInternalSectionOffset.{PdbInternalSectionOffset}
use Rattle.pdb_names.specs.Spelling.{spelled, text_of}
use Rattle.tool_search.specs.FindTexts.{Finding, line_if_asked, public_line}

-- a place and a name
abbrev pub Placed : Type 0
Placed = PdbInternalSectionOffset × List ℕ

abbrev pub named_at : PdbInternalSectionOffset → Result (List ℕ) Error → Option Placed
named_at q (Ok name) = Some (q, name)
named_at q (Err e) = None

-- the place at offset 6 of a record, and the name at offset 12; none where the record ends before
abbrev pub placed_at : List ℕ → Option Placed
placed_at b = if nat_le 12 (length b) then named_at (record { offset = number b 6 4; section = number b 10 2 }) (cstring_at b 12) else None

-- the line of a public symbol there
abbrev pub public_placed : Bool → Finding → Option Placed → List ℕ
public_placed x86 f None = []
public_placed x86 f (Some (q, name)) = public_line f q name (text_of name (spelled name x86))

-- that of data of a kind
abbrev pub data_placed : List ℕ → Finding → Option Placed → List ℕ
data_placed kind f None = []
data_placed kind f (Some (q, name)) = line_if_asked kind f q None name
