-- What place an address of the image has: the table of pairs leads from it to an address of the image before it was rearranged, and the original sections lead on to a section and an offset.
use Rattle.std.specs.Prelude.{◌≡◌, ℕ, ◌+◌, ◌-◌, ◌*◌, ◌/◌, ◌<◌, ◌≤◌, Bool, ◌&&◌, ◌==◌, nat_le, nat_lt, if◌then◌else◌, List, [], ◌∷◌, length, get_or, map, Option, Some, None, option_and_then, Result}
use Rattle.std.specs.List.{range_with_len}
use Rattle.std.specs.List.Sorted.{IsNonDecreasingBy}
use Rattle.std.specs.Option.{option_or}
use Rattle.pdb.specs.Error.{Error}
use Rattle.pdb.specs.Fields.{number}
use Rattle.pdb.specs.ImageSectionHeader.{ImageSectionHeader}
use Rattle.pdb.specs.PdbInternalSectionOffset.{PdbInternalSectionOffset}
use Rattle.pdb.specs.Tables.{Addresses}
use Rattle.pdb_places.specs.AsIfEmpty.{if_read}

-- ---- the pairs of a table

-- from an address of the image on, what stands at another one
pub record Pair : Type 0 where
  pub from : ℕ
  pub to : ℕ

-- pair k of a table
abbrev pub pair_in : List ℕ → ℕ → Pair
pair_in b k = record { from = number b (8 * k) 4; to = number b (8 * k + 4) 4 }

-- as many as are whole
unfoldable pub pairs_in : List ℕ → List Pair
pairs_in b = map (pair_in b) (range_with_len 0 (length b / 8))

-- no pair begins before an earlier one
abbrev pub Rises : List Pair → Type 0
Rises ps = IsNonDecreasingBy (λ p. p.from) ps

-- ---- the last listed pair at or before an address

-- it is number k
pub record IsLastUpto (r : ℕ) (ps : List Pair) (k : ℕ) (p : Pair) : Type 0 where
  pub there : k < length ps
  pub is : get_or ps k p ≡ p
  pub upto : p.from ≤ r
  pub last : (j : ℕ) → k < j → j < length ps → (get_or ps j p).from ≤ r → ⊥

-- computed
abbrev pub last_upto : ℕ → List Pair → Option Pair
last_upto r [] = None
last_upto r (p ∷ ps) = option_or (last_upto r ps) (if nat_le p.from r then Some p else None)

-- where an address goes by it: nowhere where the pair drops it
abbrev pub moved : ℕ → Pair → Option ℕ
moved r p = if p.to == 0 then None else Some (p.to + r - p.from)

-- where an address goes by a table
abbrev pub moved_by : ℕ → List Pair → Option ℕ
moved_by r ps = option_and_then (moved r) (last_upto r ps)

-- without a table it stays
abbrev pub translated : ℕ → Option (List ℕ) → Option ℕ
translated r None = Some r
translated r (Some b) = moved_by r (pairs_in b)

-- ---- the section of an address

-- the section has the address
pub record Holds (r : ℕ) (h : ImageSectionHeader) : Type 0 where
  pub from : h.virtual_address ≤ r
  pub before : r < h.virtual_address + h.virtual_size

-- header number k, counted from 0, is the first that has it
pub record IsFirstHolding (r : ℕ) (hs : List ImageSectionHeader) (k : ℕ) (h : ImageSectionHeader) : Type 0 where
  pub there : k < length hs
  pub is : get_or hs k h ≡ h
  pub holds : Holds r h
  pub first : (j : ℕ) → j < k → Holds r (get_or hs j h) → ⊥

-- computed
abbrev pub holds : ℕ → ImageSectionHeader → Bool
holds r h = nat_le h.virtual_address r && nat_lt r (h.virtual_address + h.virtual_size)

-- a place in section number n; none from 65536 on, since a section's number has two bytes
abbrev pub numbered : ℕ → ℕ → Option PdbInternalSectionOffset
numbered n offset = if nat_lt n 65536 then Some (record { offset = offset; section = n }) else None

-- the place of an address among sections of which the first has number n
abbrev pub place_from : ℕ → ℕ → List ImageSectionHeader → Option PdbInternalSectionOffset
place_from r n [] = None
place_from r n (h ∷ hs) = if holds r h then numbered n (r - h.virtual_address) else place_from r (n + 1) hs

-- ---- the place of an address

abbrev pub place_in : Addresses → ℕ → Option PdbInternalSectionOffset
place_in a r = option_and_then (λ at. place_from at 1 a.original_sections) (translated r a.omap_to_src)

abbrev pub place_for : Option Addresses → ℕ → Option PdbInternalSectionOffset
place_for None r = None
place_for (Some a) r = place_in a r

-- where the sections are refused, or the map, no address has a place
abbrev pub place_at : Result Addresses Error → ℕ → Option PdbInternalSectionOffset
place_at answer r = place_for (if_read answer) r

-- ---- what is searched

abbrev pub pairs_of_table : Option (List ℕ) → List Pair
pairs_of_table None = []
pairs_of_table (Some b) = pairs_in b

-- the pairs and the sections of a map
abbrev pub pairs_of : Option Addresses → List Pair
pairs_of None = []
pairs_of (Some a) = pairs_of_table a.omap_to_src

abbrev pub sections_of : Option Addresses → List ImageSectionHeader
sections_of None = []
sections_of (Some a) = a.original_sections
