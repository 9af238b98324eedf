-- The public symbol before a place: of those in its section that stand there or before it, the nearest, and of several at one place the first listed.
use Rattle.std.specs.Prelude.{◌≡◌, ℕ, ◌<◌, ◌≤◌, Bool, ◌&&◌, ◌==◌, nat_le, nat_lt, if◌then◌else◌, List, [], ◌∷◌, length, get_or, Option, Some, None, Result, Ok, filter_map}
use Rattle.std.specs.Option.{option_map}
use Rattle.pdb.specs.Error.{Error}
use Rattle.pdb.specs.PdbInternalSectionOffset.{PdbInternalSectionOffset}
use Rattle.pdb.specs.Data.{Data}
use Rattle.pdb.specs.Data.Data.{Public}
use Rattle.pdb.specs.Forms.{record_at}
use Rattle.pdb.specs.SymbolList.{Entry, symbols_from}

-- a public symbol: its symbol's index, its place and its name
pub record PublicAt : Type 0 where
  pub index : ℕ
  pub place : PdbInternalSectionOffset
  pub name : List ℕ

abbrev pub public_said : ℕ → Result Data Error → Option PublicAt
public_said index (Ok (Public code function managed msil place name)) = Some (record { index = index; place = place; name = name })
public_said index r = None

-- the public symbol that a symbol parses as
abbrev pub public_of : Entry → Option PublicAt
public_of s = public_said s.index (record_at s.bytes)

abbrev pub publics_among : List Entry → List PublicAt
publics_among ss = filter_map public_of ss

-- those of a stream of symbols, before a fault; none without a stream
unfoldable pub publics_in : Option (List ℕ) → List PublicAt
publics_in None = []
publics_in (Some b) = publics_among (symbols_from b 0).items

-- ---- by positions

-- p stands in the section of q, there or before it
pub record StandsUpto (q : PdbInternalSectionOffset) (p : PublicAt) : Type 0 where
  pub section : p.place.section ≡ q.section
  pub upto : p.place.offset ≤ q.offset

-- number k is the nearest of those
pub record IsNearest (q : PdbInternalSectionOffset) (ps : List PublicAt) (k : ℕ) (p : PublicAt) : Type 0 where
  pub there : k < length ps
  pub is : get_or ps k p ≡ p
  pub stands : StandsUpto q p
  pub nearest : (j : ℕ) → j < length ps → StandsUpto q (get_or ps j p) → (get_or ps j p).place.offset ≤ p.place.offset
  pub first : (j : ℕ) → j < k → StandsUpto q (get_or ps j p) → (get_or ps j p).place.offset < p.place.offset

-- ---- computed

abbrev pub stands_upto : PdbInternalSectionOffset → PublicAt → Bool
stands_upto q p = (p.place.section == q.section) && nat_le p.place.offset q.offset

-- the one of the greater offset; of one offset the first
abbrev pub nearer : Option PublicAt → Option PublicAt → Option PublicAt
nearer None o = o
nearer (Some p) None = Some p
nearer (Some p) (Some r) = if nat_lt p.place.offset r.place.offset then Some r else Some p

abbrev pub public_before : PdbInternalSectionOffset → List PublicAt → Option PublicAt
public_before q [] = None
public_before q (p ∷ ps) = nearer (if stands_upto q p then Some p else None) (public_before q ps)

-- where a public symbol stands, and its name
pub record NamedPlace : Type 0 where
  pub place : PdbInternalSectionOffset
  pub name : List ℕ

abbrev pub named_place : PublicAt → NamedPlace
named_place p = record { place = p.place; name = p.name }

-- the public symbol before a place, by a stream of symbols
abbrev pub public_at : PdbInternalSectionOffset → Option (List ℕ) → Option NamedPlace
public_at q b = option_map named_place (public_before q (publics_in b))
