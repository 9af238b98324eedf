-- Words of private functions: public symbols as they are read and kept.
use Rattle.std.specs.Prelude.{◌≡◌, ℕ, ◌+◌, ◌-◌, ◌*◌, ◌^◌, ◌<◌, ◌≤◌, if◌then◌else◌, List, [], ◌∷◌, length, get_or, map, Option, Some, None}
use Rattle.std.specs.Option.{option_map}
use Rattle.std.specs.List.Sorted.{IsNonDecreasingBy, IsPermutation}
use Rattle.pdb.specs.PdbInternalSectionOffset.{PdbInternalSectionOffset}
use Rattle.pdb.specs.LineOrder.{order_of}
use Rattle.pdb.specs.Text.{name_bytes}
use Rattle.pdb.specs.SymbolList.{Entry}
use Rattle.pdb_places.specs.declared.publics.Public.{Public}
use Rattle.pdb_places.specs.declared.public_names.PublicName.{PublicName}
use Rattle.pdb_places.specs.declared.public_place.PublicPlace.{PublicPlace}
use Rattle.pdb_places.specs.declared.public_table.PublicTable.{PublicTable as Table}
use Rattle.pdb_places.specs.PublicNames.{PublicAt, NamedPlace, named_place, public_of, stands_upto}

-- a public symbol that was read
abbrev pub shown_public : Public → PublicAt
shown_public p = record { index = p.index.0; place = p.place; name = name_bytes p.name }

-- a public symbol, if it stands at or before a place
abbrev pub if_upto : PdbInternalSectionOffset → Option PublicAt → Option PublicAt
if_upto q None = None
if_upto q (Some p) = if stands_upto q p then Some p else None

-- what is kept of one
abbrev pub place_parts : PublicPlace → ℕ × PdbInternalSectionOffset
place_parts r = (r.index, r.place)

abbrev pub public_parts : PublicAt → ℕ × PdbInternalSectionOffset
public_parts p = (p.index, p.place)

abbrev pub public_index : PublicAt → ℕ
public_index p = p.index

-- the order: by the places, and at one place by the indices downwards
abbrev pub key_by : ℕ × PdbInternalSectionOffset → ℕ
key_by z = order_of z.1 * 2 ^ 32 + (0xffffffff - z.0)

abbrev pub key_of : PublicPlace → ℕ
key_of r = key_by (place_parts r)

-- the last at or before a place
abbrev pub key_upto : PdbInternalSectionOffset → ℕ
key_upto q = order_of q * 2 ^ 32 + 0xffffffff

-- the first n rows stand at or before `last` in the order, and no other
pub record IsUptoCount (last : ℕ) (rs : List PublicPlace) (n : ℕ) : Type 0 where
  pub inside : n ≤ length rs
  pub below : (k : ℕ) (d : PublicPlace) → k < n → key_of (get_or rs k d) ≤ last
  pub above : (k : ℕ) (d : PublicPlace) → n ≤ k → k < length rs → last < key_of (get_or rs k d)

-- the indices rise
abbrev pub IndicesRise : List PublicAt → Type 0
IndicesRise ps = (j k : ℕ) (d : PublicAt) → j < k → k < length ps → (get_or ps j d).index < (get_or ps k d).index

-- rows are those of these public symbols, whose indices rise, in their order
pub record IsPublicTable (ps : List PublicAt) (rs : List PublicPlace) : Type 0 where
  pub listed : List PublicPlace
  pub rows : map place_parts listed ≡ map public_parts ps
  pub all : IsPermutation listed rs
  pub rises : IsNonDecreasingBy key_of rs
  pub rising : IndicesRise ps

abbrev pub IsPublicTableIfMade : List PublicAt → Option Table → Type 0
IsPublicTableIfMade ps None = Unit {0}
IsPublicTableIfMade ps (Some t) = IsPublicTable ps t.sorted.items

-- a public symbol that was found
abbrev pub shown_found : PublicName → NamedPlace
shown_found p = record { place = p.place; name = name_bytes p.name }

-- the first symbol, where it is public
abbrev pub head_public : List Entry → Option NamedPlace
head_public [] = None
head_public (s ∷ ss) = option_map named_place (public_of s)
