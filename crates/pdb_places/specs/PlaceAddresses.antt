-- What address of the image a place has: the original sections lead to an address of the image before it was rearranged, and the table of pairs leads back.
use Rattle.std.specs.Prelude.{◌≡◌, ℕ, zero, suc, ◌+◌, ◌<◌, List, [], Option, Some, None, option_and_then, nat_lt, length, get_or, if◌then◌else◌}
use Rattle.std.specs.List.{slice_get}
use Rattle.pdb.specs.ImageSectionHeader.{ImageSectionHeader}
use Rattle.pdb.specs.PdbInternalSectionOffset.{PdbInternalSectionOffset}
use Rattle.pdb.specs.Tables.{Addresses}
use Rattle.pdb_places.specs.AddressPlaces.{Holds, Pair, pairs_of_table, translated}

-- the section of a number, counted from 1
abbrev pub section_numbered : List ImageSectionHeader → ℕ → Option ImageSectionHeader
section_numbered hs zero = None
section_numbered hs (suc k) = slice_get hs k

-- the address of an offset in a section, where the section has it
abbrev pub address_inside : ℕ → ImageSectionHeader → Option ℕ
address_inside offset h = if nat_lt offset h.virtual_size then Some (h.virtual_address + offset) else None

-- the address of a place among sections
abbrev pub address_among : List ImageSectionHeader → PdbInternalSectionOffset → Option ℕ
address_among hs q = option_and_then (address_inside q.offset) (section_numbered hs q.section)

-- an address has four bytes
abbrev pub as_address : ℕ → Option ℕ
as_address r = if nat_lt r 0x1_0000_0000 then Some r else None

-- back through a table, where there is one
abbrev pub back_through : Option (List ℕ) → ℕ → Option ℕ
back_through table r = option_and_then as_address (translated r table)

unfoldable pub address_in : Addresses → PdbInternalSectionOffset → Option ℕ
address_in a q = option_and_then (back_through a.omap_from_src) (address_among a.original_sections q)

abbrev pub address_for : Option Addresses → PdbInternalSectionOffset → Option ℕ
address_for None q = None
address_for (Some a) q = address_in a q

-- the pairs that lead back
abbrev pub back_pairs_of : Option Addresses → List Pair
back_pairs_of None = []
back_pairs_of (Some a) = pairs_of_table a.omap_from_src

-- ---- sections that don't overlap

-- no two sections have a common address
abbrev pub AreSectionsApart : List ImageSectionHeader → Type 0
AreSectionsApart hs = (j k : ℕ) (d : ImageSectionHeader) (r : ℕ) → j < length hs → k < length hs → Holds r (get_or hs j d) → Holds r (get_or hs k d) → j ≡ k

-- the image was not rearranged
pub record IsUnmoved (a : Addresses) : Type 0 where
  pub there : a.omap_to_src ≡ None
  pub back : a.omap_from_src ≡ None
