-- Which module the bytes at a place come from: that of the first listed contribution that covers it.
use Rattle.std.specs.Prelude.{◌≡◌, ◌⊎◌, All, ℕ, ◌+◌, ◌<◌, ◌≤◌, Bool, true, false, List, [], ◌∷◌, length, get_or, Option, Some, None, find}
use Rattle.std.specs.Option.{option_map}
use Rattle.pdb.specs.PdbInternalSectionOffset.{PdbInternalSectionOffset}
use Rattle.pdb.specs.DBISectionContribution.{DBISectionContribution}
use Rattle.pdb.specs.Contributions.{contributions_in}
use Rattle.pdb_places.specs.AsIfEmpty.{items_of}
use Rattle.pdb.specs.LineCover.{bytes_cover}

-- the contributions of a DBI stream: none without one or where they are refused, and those before a fault
unfoldable pub contributions_known : Option (List ℕ) → List DBISectionContribution
contributions_known None = []
contributions_known (Some b) = items_of (contributions_in b)

-- ---- by positions

-- the place is one of the contribution's bytes
pub record HasPlace (q : PdbInternalSectionOffset) (c : DBISectionContribution) : Type 0 where
  pub section : c.offset.section ≡ q.section
  pub from : c.offset.offset ≤ q.offset
  pub before : q.offset < c.offset.offset + c.size

-- number k is the first that has it
pub record IsFirstContribution (q : PdbInternalSectionOffset) (cs : List DBISectionContribution) (k : ℕ) (c : DBISectionContribution) : Type 0 where
  pub there : k < length cs
  pub is : get_or cs k c ≡ c
  pub has : HasPlace q c
  pub first : (j : ℕ) → j < k → HasPlace q (get_or cs j c) → ⊥

-- ---- computed

abbrev pub contributes : PdbInternalSectionOffset → DBISectionContribution → Bool
contributes q c = bytes_cover q c.offset c.size

abbrev pub module_of : DBISectionContribution → ℕ
module_of c = c.«module»

abbrev pub module_among : PdbInternalSectionOffset → List DBISectionContribution → Option ℕ
module_among q cs = option_map module_of (find (contributes q) cs)

-- the number of the module at a place, by a DBI stream
abbrev pub module_number_at : PdbInternalSectionOffset → Option (List ℕ) → Option ℕ
module_number_at q b = module_among q (contributions_known b)

abbrev pub none_listed : List DBISectionContribution → Bool
none_listed [] = true
none_listed (c ∷ cs) = false

-- whether a contribution has the place q; where none was found, whether there are none at all
abbrev pub reaches_by : Bool → PdbInternalSectionOffset → Option DBISectionContribution → Bool
reaches_by none q None = none
reaches_by none q (Some c) = contributes q c

-- whether the first listed contribution that has the place p has the place q too; so it is where none is listed
abbrev pub reaches : PdbInternalSectionOffset → PdbInternalSectionOffset → List DBISectionContribution → Bool
reaches p q cs = reaches_by (none_listed cs) q (find (contributes p) cs)

-- ---- contributions that don't overlap

abbrev pub SameBytes : DBISectionContribution → DBISectionContribution → Type 0
SameBytes c d = (c.offset.section ≡ d.offset.section) × (c.offset.offset ≡ d.offset.offset) × (c.size ≡ d.size)

abbrev pub NoCommonByte : DBISectionContribution → DBISectionContribution → Type 0
NoCommonByte c d = (q : PdbInternalSectionOffset) → contributes q c ≡ true → contributes q d ≡ true → ⊥

-- any two have the same bytes, or none in common
abbrev pub AreContributionsApart : List DBISectionContribution → Type 0
AreContributionsApart cs = All (λ c. All (λ d. SameBytes c d ⊎ NoCommonByte c d) cs) cs
