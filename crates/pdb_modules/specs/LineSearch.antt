-- Words of private functions: the search for the first record that covers a place, while marks come one after another.
use Rattle.std.specs.Prelude.{◌≡◌, ℕ, ◌<◌, ◌≤◌, Bool, true, false, is_none, if◌then◌else◌, find, List, [], ◌∷◌, Option, Some, None, option_map}
use Rattle.pdb_base.specs.declared.index.PdbInternalSectionOffset.{PdbInternalSectionOffset}
use Rattle.pdb_modules.specs.declared.line_info.LineInfo.{LineInfo}
use Rattle.pdb_modules.specs.declared.line.Entry.{Entry}
use Rattle.pdb_modules.specs.declared.line_search.Begun.{Begun}
use Rattle.pdb_modules.specs.declared.line_search.Search.{Search}
use Rattle.pdb_modules.specs.declared.line_search.Search.TheVariants.{Found, On}
use Rattle.pdb_modules.specs.LineCover.{line_covers}
use Rattle.pdb_modules.specs.Blocks.{LineBlock, entry_of}
use Rattle.pdb_modules.specs.Lines.{line_info, all_but_last, behind, is_marker}

-- the first record of a list that covers a place
abbrev pub first_covering : PdbInternalSectionOffset → List LineInfo → Option LineInfo
first_covering q rs = find (line_covers q) rs

-- a record that was begun, as far as marks came
abbrev pub begun_line : Begun → LineInfo
begun_line b = line_info b.place b.line b.length

abbrev pub last_of : List LineInfo → Option LineInfo
last_of [] = None
last_of (r ∷ []) = Some r
last_of (r ∷ (s ∷ rs)) = last_of (s ∷ rs)

-- a record, if it covers the place
abbrev pub if_covers : PdbInternalSectionOffset → Option LineInfo → Option LineInfo
if_covers q None = None
if_covers q (Some r) = if line_covers q r then Some r else None

-- of these records this one is the last, and none before it covers the place
pub record IsSearched (q : PdbInternalSectionOffset) (rs : List LineInfo) (last : Option Begun) : Type 0 where
  pub none : first_covering q (all_but_last rs) ≡ None
  pub is_last : last_of rs ≡ option_map begun_line last

-- or one before the last is the first that covers it
abbrev pub IsTurned : PdbInternalSectionOffset → List LineInfo → Search → Type 0
IsTurned q rs (On last) = IsSearched q rs last
IsTurned q rs (Found b) = first_covering q (all_but_last rs) ≡ Some (begun_line b)

-- ---- entries that are passed

-- no mark came behind the last record, if there is one
abbrev pub is_open : Option Begun → Bool
is_open None = true
is_open (Some b) = is_none b.length

-- the record that an entry of a subsection at p begins
abbrev pub begun_of : PdbInternalSectionOffset → Entry → Begun
begun_of p entry = record { place = behind p entry.offset; line = entry.line; length = None }

-- an entry is no marker, and stands at or before the place
pub record IsPassed (q p : PdbInternalSectionOffset) (entry : Entry) : Type 0 where
  pub begins : is_marker entry.line.flags ≡ false
  pub upto : (behind p entry.offset).offset ≤ q.offset

-- the first n entries of a block are
abbrev pub ArePassed : PdbInternalSectionOffset → PdbInternalSectionOffset → Bool → LineBlock → ℕ → Type 0
ArePassed q p columns block n = (k : ℕ) → k < n → IsPassed q p (entry_of columns block k)
