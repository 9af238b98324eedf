-- The order of subsections, and which one is chosen for a place.
use Rattle.std.specs.Prelude.{◌≡◌, ℕ, ◌+◌, ◌*◌, ◌^◌, ◌<◌, Bool, true, false, ◌==◌, nat_le, if◌then◌else◌, List, [], ◌∷◌, length, get_or, filter, Option, Some, None}
use Rattle.std.specs.List.Sorted.{IsNonDecreasingBy}
use Rattle.pdb_base.specs.declared.index.PdbInternalSectionOffset.{PdbInternalSectionOffset}
use Rattle.pdb_base.specs.Left.{Left, ended}
use Rattle.pdb_modules.specs.declared.line_info.LineInfo.{LineInfo}
use Rattle.pdb_modules.specs.Lines.{Subsection, lines_of}

-- sections come one after another, and the offsets of one in their order: as offsets are below 2^32, one number says both
abbrev pub order_of : PdbInternalSectionOffset → ℕ
order_of p = p.section * 2 ^ 32 + p.offset

-- p is q or stands before it
abbrev pub is_upto : PdbInternalSectionOffset → PdbInternalSectionOffset → Bool
is_upto p q = nat_le (order_of p) (order_of q)

-- no subsection stands before an earlier one
abbrev pub InOrder : List Subsection → Type 0
InOrder ss = IsNonDecreasingBy (λ s. order_of s.place) ss

-- it stands at place number n
abbrev pub is_at : ℕ → Subsection → Bool
is_at n s = order_of s.place == n

-- the subsections ys are the subsections xs in order; those at one place stand as they do in xs
pub record IsOrdering (xs ys : List Subsection) : Type 0 where
  pub in_order : InOrder ys
  pub stable : (n : ℕ) → filter (is_at n) ys ≡ filter (is_at n) xs

-- computed: each one goes before the first that it doesn't stand behind
abbrev pub put : Subsection → List Subsection → List Subsection
put s [] = s ∷ []
put s (t ∷ ts) = if is_upto s.place t.place then s ∷ (t ∷ ts) else t ∷ put s ts

unfoldable pub ordered : List Subsection → List Subsection
ordered [] = []
ordered (s ∷ ss) = put s (ordered ss)

-- number k is the last one at or before q
pub record IsLastUpto (q : PdbInternalSectionOffset) (ss : List Subsection) (k : ℕ) (s : Subsection) : Type 0 where
  pub there : k < length ss
  pub is : get_or ss k s ≡ s
  pub upto : is_upto s.place q ≡ true
  pub last : (j : ℕ) → k < j → j < length ss → is_upto (get_or ss j s).place q ≡ false

-- computed
abbrev pub later : Option Subsection → Option Subsection → Option Subsection
later None o = o
later (Some s) o = Some s

abbrev pub last_upto : PdbInternalSectionOffset → List Subsection → Option Subsection
last_upto q [] = None
last_upto q (s ∷ ss) = later (last_upto q ss) (if is_upto s.place q then Some s else None)

-- the records of the last subsection at or before q, where it lies in q's section
abbrev pub lines_in : PdbInternalSectionOffset → Option Subsection → Left LineInfo
lines_in q None = ended
lines_in q (Some s) = if s.place.section == q.section then lines_of (s ∷ []) else ended

unfoldable pub lines_for : PdbInternalSectionOffset → List Subsection → Left LineInfo
lines_for q ss = lines_in q (last_upto q ss)

-- its bytes
abbrev pub part_in : PdbInternalSectionOffset → Option Subsection → List ℕ
part_in q None = []
part_in q (Some s) = if s.place.section == q.section then s.bytes else []

unfoldable pub part_for : PdbInternalSectionOffset → List Subsection → List ℕ
part_for q ss = part_in q (last_upto q ss)
