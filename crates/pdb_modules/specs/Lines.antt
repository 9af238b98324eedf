-- Line records: the marks of line subsections, and how far the record reaches that a mark begins.
use Rattle.std.specs.Prelude.{◌≡◌, ℕ, Bool, ◌+◌, ◌-◌, ◌/◌, ◌%◌, ◌^◌, ◌<◌, ◌≤◌, ◌&&◌, ◌||◌, ◌==◌, min, nat_le, if◌then◌else◌, List, [], ◌∷◌, ◌++◌, map, length, get_or, Option, Some, None, option_map}
use Rattle.pdb_base.specs.declared.error.Error.{Error}
use Rattle.pdb_base.specs.declared.index.PdbInternalSectionOffset.{PdbInternalSectionOffset}
use Rattle.pdb_base.specs.Left.{Left}
use Rattle.pdb_modules.specs.declared.line.Line.{Line}
use Rattle.pdb_modules.specs.declared.line.Entry.{Entry}
use Rattle.pdb_modules.specs.declared.line_info.LineInfo.{LineInfo}
use Rattle.pdb_modules.specs.declared.line_info.LineInfoKind.TheVariants.{Expression, Statement}

-- ---- marks

-- a place at which a record begins, with what its entry tells; or one at which a marker or an end stands
pub data Mark : Type 0 where
  begins : PdbInternalSectionOffset → Line → Mark
  stands : PdbInternalSectionOffset → Mark

-- where a mark is
abbrev pub place_of : Mark → PdbInternalSectionOffset
place_of (begins p l) = p
place_of (stands p) = p

-- it begins a record
abbrev pub Begins : Mark → Type 0
Begins (begins p l) = Unit {0}
Begins (stands p) = ⊥

-- ---- how far a record reaches, by places

-- Of the marks behind a record's own one, number j counts for the record: no record begins before it, and it lies in the record's section and not before the record.
pub record Counts (p : PdbInternalSectionOffset) (behind : List Mark) (j : ℕ) : Type 0 where
  pub there : j < length behind
  pub open_till : (k : ℕ) → k < j → Begins (get_or behind k (stands p)) → ⊥
  pub section : (place_of (get_or behind j (stands p))).section ≡ p.section
  pub forward : p.offset ≤ (place_of (get_or behind j (stands p))).offset

-- how far mark j is behind the record's own one
abbrev pub distance_to : PdbInternalSectionOffset → List Mark → ℕ → ℕ
distance_to p behind j = (place_of (get_or behind j (stands p))).offset - p.offset

-- the record that begins at p reaches to the nearest of the marks behind it that count, or to none where none counts
abbrev pub Reaches : PdbInternalSectionOffset → List Mark → Option ℕ → Type 0
Reaches p behind None = (j : ℕ) → Counts p behind j → ⊥
Reaches p behind (Some n) = ((j : ℕ) × Counts p behind j × (n ≡ distance_to p behind j)) × ((j : ℕ) → Counts p behind j → n ≤ distance_to p behind j)

-- ---- what an entry tells

abbrev pub is_marker : ℕ → Bool
is_marker flags = (flags % 2 ^ 24 == 0xfeefee) || (flags % 2 ^ 24 == 0xf00f00)

-- the record of a line at p that reaches so far
abbrev pub line_info : PdbInternalSectionOffset → Line → Option ℕ → LineInfo
line_info p line reach = record {
  offset = p;
  length = reach;
  file_index = line.file;
  line_start = line.flags % 2 ^ 24;
  line_end = line.flags % 2 ^ 24 + line.flags / 2 ^ 24 % 2 ^ 7;
  column_start = option_map (λ c. c.start) line.columns;
  column_end = option_map (λ c. c.end) line.columns;
  kind = if nat_le (2 ^ 31) line.flags then Statement else Expression;
}

-- ---- the records of marks: one for each that begins one

-- by places
abbrev pub AreRecords : List Mark → List LineInfo → Type 0
AreRecords [] rs = rs ≡ []
AreRecords (stands p ∷ ms) rs = AreRecords ms rs
AreRecords (begins p line ∷ ms) rs = (reach : Option ℕ) × (others : List LineInfo) × (rs ≡ line_info p line reach ∷ others) × Reaches p ms reach × AreRecords ms others

-- the distance forward, where there is one
abbrev pub distance : PdbInternalSectionOffset → PdbInternalSectionOffset → Option ℕ
distance p q = if (p.section == q.section) && nat_le p.offset q.offset then Some (q.offset - p.offset) else None

-- the lesser of the two that are there
abbrev pub lesser : Option ℕ → Option ℕ → Option ℕ
lesser None b = b
lesser (Some a) None = Some a
lesser (Some a) (Some b) = Some (min a b)

-- computed
abbrev pub reach_of : PdbInternalSectionOffset → List Mark → Option ℕ
reach_of p [] = None
reach_of p (stands q ∷ ms) = lesser (distance p q) (reach_of p ms)
reach_of p (begins q line ∷ ms) = distance p q

abbrev pub records : List Mark → List LineInfo
records [] = []
records (stands p ∷ ms) = records ms
records (begins p line ∷ ms) = line_info p line (reach_of p ms) ∷ records ms

-- ---- subsections

-- a line subsection: where its code begins and how many bytes it has, the bytes of its blocks, their entries, and the fault that ended them
pub record Subsection : Type 0 where
  pub place : PdbInternalSectionOffset
  pub code_size : ℕ
  pub bytes : List ℕ
  pub entries : List Entry
  pub fault : Option Error

-- n bytes behind p, modulo 2^32
abbrev pub behind : PdbInternalSectionOffset → ℕ → PdbInternalSectionOffset
behind p n = record { offset = (p.offset + n) % 2 ^ 32; section = p.section }

abbrev pub mark_at : PdbInternalSectionOffset → Line → Mark
mark_at p line = if is_marker line.flags then stands p else begins p line

-- the mark of an entry of a subsection that begins at p
abbrev pub entry_mark : PdbInternalSectionOffset → Entry → Mark
entry_mark p entry = mark_at (behind p entry.offset) entry.line

-- the end of a subsection's code, which is not told behind a fault
abbrev pub end_mark : PdbInternalSectionOffset → ℕ → Option Error → List Mark
end_mark p code_size None = stands (behind p code_size) ∷ []
end_mark p code_size (Some e) = []

abbrev pub marks : Subsection → List Mark
marks s = map (entry_mark s.place) s.entries ++ end_mark s.place s.code_size s.fault

-- the marks up to the first fault
abbrev pub unless_fault : {A : Type 0} → Option Error → List A → List A
unless_fault None xs = xs
unless_fault (Some e) xs = []

abbrev pub program_marks : List Subsection → List Mark
program_marks [] = []
program_marks (s ∷ ss) = marks s ++ unless_fault s.fault (program_marks ss)

-- the first fault
abbrev pub first_of : Option Error → Option Error → Option Error
first_of None other = other
first_of (Some e) other = Some e

abbrev pub program_fault : List Subsection → Option Error
program_fault [] = None
program_fault (s ∷ ss) = first_of s.fault (program_fault ss)

-- ---- the lists that are given

-- all but the last
abbrev pub all_but_last : {A : Type 0} → List A → List A
all_but_last [] = []
all_but_last (x ∷ []) = []
all_but_last (x ∷ (y ∷ ys)) = x ∷ all_but_last (y ∷ ys)

-- records, or where a fault ended their marks all but the last, and then the fault
abbrev pub given : List LineInfo → Option Error → Left LineInfo
given rs None = record { items = rs; fault = None }
given rs (Some e) = record { items = all_but_last rs; fault = Some e }

-- the records of subsections in their order
unfoldable pub lines_of : List Subsection → Left LineInfo
lines_of ss = given (records (program_marks ss)) (program_fault ss)
