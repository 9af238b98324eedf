-- Rows, in which records are kept, and what a mark that comes next does to them.
use Rattle.std.specs.Prelude.{nat_le, ◌≡◌, ◌≤◌, ℕ, Bool, true, false, ◌-◌, List, [], ◌∷◌, ◌++◌, take, drop, Option, Some, None}
use Rattle.std.specs.List.{flat_map}
use Rattle.pdb_base.specs.declared.error.Error.{Error}
use Rattle.pdb_base.specs.declared.index.PdbInternalSectionOffset.{PdbInternalSectionOffset}
use Rattle.pdb_modules.specs.declared.line.Entry.{Entry}
use Rattle.pdb_modules.specs.Blocks.{LineBlock, entries_of, blocks_from}
use Rattle.pdb_modules.specs.declared.line.Line.{Line}
use Rattle.pdb_modules.specs.declared.line_info.LineInfo.{LineInfo}
use Rattle.pdb_modules.specs.declared.rows.Row.{Row}
use Rattle.pdb_modules.specs.declared.line_subsection.LineSubsection.{LineSubsection}
use Rattle.pdb_modules.specs.Lines.{Mark, begins, stands, place_of, line_info, distance, lesser, records, Subsection, marks}

abbrev pub row_place : Row → PdbInternalSectionOffset
row_place row = record { offset = row.offset; section = row.section }

abbrev pub row_line : Row → Line
row_line row = record { file = row.file; flags = row.flags; columns = row.columns }

-- the record of a row among all subsections
abbrev pub whole : Row → LineInfo
whole row = line_info (row_place row) (row_line row) row.length

-- its record where its own subsection is the only one
abbrev pub own : Row → LineInfo
own row = line_info (row_place row) (row_line row) row.own_length

-- a length is there and at most n
abbrev pub upto : Option ℕ → ℕ → Bool
upto None n = false
upto (Some m) n = nat_le m n

-- a record reaches no further than a mark at p
abbrev pub nearer : PdbInternalSectionOffset → LineInfo → LineInfo
nearer p r = record r { length = lesser r.length (distance r.offset p) }

-- a mark at p is noted at the last record
abbrev pub noted : PdbInternalSectionOffset → List LineInfo → List LineInfo
noted p [] = []
noted p (r ∷ []) = nearer p r ∷ []
noted p (r ∷ (s ∷ rs)) = r ∷ noted p (s ∷ rs)

-- and not at the first n records
abbrev pub noted_from : ℕ → PdbInternalSectionOffset → List LineInfo → List LineInfo
noted_from n p rs = take n rs ++ noted p (drop n rs)

-- the record that a mark begins
abbrev pub begun : Mark → List LineInfo
begun (begins p line) = line_info p line None ∷ []
begun (stands p) = []

-- a mark is noted, and begins a record where it is one that does
abbrev pub stepped : Mark → List LineInfo → List LineInfo
stepped x rs = noted (place_of x) rs ++ begun x

abbrev pub stepped_from : ℕ → Mark → List LineInfo → List LineInfo
stepped_from n x rs = noted_from n (place_of x) rs ++ begun x

-- marks come one after another
abbrev pub after : List LineInfo → List Mark → List LineInfo
after rs [] = rs
after rs (x ∷ xs) = after (stepped x rs) xs

-- the entries of blocks
abbrev pub all_entries : Bool → List LineBlock → List Entry
all_entries columns bs = flat_map (entries_of columns) bs

-- what a part of a module's lines data says
abbrev pub subsection_of : LineSubsection → Subsection
subsection_of part = record {
  place = part.place;
  code_size = part.code_size;
  bytes = part.bytes.now;
  entries = all_entries part.has_columns (blocks_from part.has_columns part.bytes.now 0).items;
  fault = (blocks_from part.has_columns part.bytes.now 0).fault;
}

-- ---- several subsections

-- the marks of all subsections, also those behind a fault
abbrev pub all_marks : List Subsection → List Mark
all_marks ss = flat_map marks ss

-- the records of each, as if it were the only one
abbrev pub own_records : Subsection → List LineInfo
own_records s = records (marks s)

abbrev pub all_own : List Subsection → List LineInfo
all_own ss = flat_map own_records ss

-- of n records, how many are given before a fault
abbrev pub given_count : ℕ → Option Error → ℕ
given_count n None = n
given_count n (Some e) = n - 1

-- a row's record, among all subsections or where its own is the only one
abbrev pub view_of : Bool → Row → LineInfo
view_of false row = whole row
view_of true row = own row

-- ---- one subsection's records among those of all

-- a length among all is there where the other one is, and then at most it
abbrev pub AtMost : Option ℕ → Option ℕ → Type 0
AtMost alone None = alone ≡ None
AtMost None (Some n) = Unit {0}
AtMost (Some m) (Some n) = n ≤ m

-- the records are the same but for the last one's length
abbrev pub SameButLast : List LineInfo → List LineInfo → Type 0
SameButLast [] ss = ss ≡ []
SameButLast (r ∷ []) ss = (length : Option ℕ) × (ss ≡ record r { length = length } ∷ []) × AtMost r.length length
SameButLast (r ∷ (x ∷ rs)) ss = (others : List LineInfo) × (ss ≡ r ∷ others) × SameButLast (x ∷ rs) others

-- the records `alone` stand one after the other among `all`
pub record StandAmong (alone all : List LineInfo) : Type 0 where
  pub before : List LineInfo
  pub mine : List LineInfo
  pub behind : List LineInfo
  pub stand : all ≡ before ++ (mine ++ behind)
  pub same : SameButLast alone mine
