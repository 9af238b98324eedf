-- What an image says, as facts on places alone.
use Rattle.std.specs.Prelude.{◌≡◌, ◌≢◌, ◌⊎◌, ◌==◌, ℕ, ◌+◌, ◌-◌, ◌*◌, ◌/◌, ◌<◌, ◌≤◌, true, List, length, slice_index, take, drop, nat_eq, codes, position, Option, Some, None}
use Rattle.std.specs.List.{starts_with}
use Rattle.pdb_base.specs.Fields.{number}
use Rattle.pdb_image.specs.declared.header.Format.{Format}
use Rattle.pdb_image.specs.declared.header.Format.TheVariants.{Pe32, Pe32Plus}
use Rattle.pdb_image.specs.Debug.{Reference, before_zero, guid_of}
use Rattle.pdb_image.specs.Headers.{base_at, fixed_size}
use Rattle.pdb_image.specs.Images.{Said}

-- n bytes stand at p
abbrev pub Stand : List ℕ → ℕ → ℕ → Type 0
Stand b p n = p + n ≤ length b

-- ---- headers

-- the signature stands at e: `MZ` at 0, e in four bytes at 60, and P, E and two zero bytes at e
pub record IsSigned (b : List ℕ) (e : ℕ) : Type 0 where
  pub begins : (slice_index b 0 ≡ 0x4d) × (slice_index b 1 ≡ 0x5a)
  pub front : Stand b 0 64
  pub at : e ≡ number b 60 4
  pub there : Stand b e 4
  pub signature : number b e 4 ≡ 0x4550

-- the format of the optional header at o, by its first two bytes
abbrev pub IsFormat : List ℕ → ℕ → Format → Type 0
IsFormat b o Pe32 = number b o 2 ≡ 0x10b
IsFormat b o Pe32Plus = number b o 2 ≡ 0x20b

-- the optional header at o has s bytes and a format
pub record IsOptional (b : List ℕ) (o s : ℕ) (f : Format) : Type 0 where
  pub two : 2 ≤ s
  pub begins : Stand b o 2
  pub format : IsFormat b o f
  pub long : fixed_size f ≤ s
  pub there : Stand b o s

-- ---- the debug directory

-- of s bytes of an optional header at o, the directory 6 stands among them, and the header counts it
abbrev pub HasDirectory : List ℕ → ℕ → ℕ → Format → Type 0
HasDirectory b o s f = (6 < number b (o + fixed_size f - 4) 4) × (fixed_size f + 56 ≤ s)

-- its address r, and how many entries of 28 bytes it has
abbrev pub address : List ℕ → ℕ → Format → ℕ
address b o f = number b (o + fixed_size f + 48) 4

abbrev pub entries : List ℕ → ℕ → Format → ℕ
entries b o f = number b (o + fixed_size f + 52) 4 / 28

-- the raw data of the section whose header stands at h has the address r
abbrev pub Holds : List ℕ → ℕ → ℕ → Type 0
Holds b r h = (number b (h + 12) 4 ≤ r) × (r < number b (h + 12) 4 + number b (h + 16) 4)

-- section i is the first of n with headers at t that has the address r, which stands at p in the file
pub record IsPlace (b : List ℕ) (t n r p : ℕ) : Type 0 where
  pub section : ℕ
  pub below : section < n
  pub holds : Holds b r (t + 40 * section)
  pub first : (j : ℕ) → j < section → Holds b r (t + 40 * j) → ⊥
  pub is : p ≡ number b (t + 40 * section + 20) 4 + (r - number b (t + 40 * section + 12) 4)

-- entry i is the first of k at p that is of type 2
pub record IsCodeView (b : List ℕ) (p k i : ℕ) : Type 0 where
  pub below : i < k
  pub type : number b (p + 28 * i + 12) 4 ≡ 2
  pub first : (j : ℕ) → j < i → number b (p + 28 * j + 12) 4 ≢ 2

-- ---- the record

-- a record of these bytes names a PDB: R, S, D, S, then its GUID at 4, its age at 20, and its path from 24 on, up to the first zero byte
pub record IsReference (r : List ℕ) (y : Reference) : Type 0 where
  pub begins : starts_with nat_eq r (codes "RSDS") ≡ true
  pub there : 24 ≤ length r
  pub guid : y.guid ≡ guid_of r
  pub age : y.age ≡ number r 20 4
  pub path : y.path ≡ before_zero (position (λ x. x == 0) (drop 24 r)) (drop 24 r)

-- entry i at p is the first of type 2, and the m bytes at q that it tells of name the PDB
pub record IsNamed (b : List ℕ) (p k : ℕ) (y : Reference) : Type 0 where
  pub entry : ℕ
  pub code_view : IsCodeView b p k entry
  pub there : Stand b (number b (p + 28 * entry + 24) 4) (number b (p + 28 * entry + 16) 4)
  pub reference : IsReference (take (number b (p + 28 * entry + 16) 4) (drop (number b (p + 28 * entry + 24) 4) b)) y

-- of k entries at p none is of type 2, and no PDB is named; or the first that is names it
abbrev pub Names : List ℕ → ℕ → ℕ → Option Reference → Type 0
Names b p k None = (j : ℕ) → j < k → number b (p + 28 * j + 12) 4 ≢ 2
Names b p k (Some y) = IsNamed b p k y

-- the directory has entries, which stand at p in the file
pub record IsListed (b : List ℕ) (o s n : ℕ) (f : Format) (pdb : Option Reference) : Type 0 where
  pub directory : HasDirectory b o s f
  pub some : 0 < entries b o f
  pub place : ℕ
  pub is : IsPlace b (o + s) n (address b o f) place
  pub there : Stand b place (28 * entries b o f)
  pub names : Names b place (entries b o f) pdb

-- there is no entry, and no PDB; or there are
abbrev pub SaysPdb : List ℕ → ℕ → ℕ → ℕ → Format → Option Reference → Type 0
SaysPdb b o s n f pdb = (((HasDirectory b o s f → entries b o f ≡ 0)) × (pdb ≡ None)) ⊎ IsListed b o s n f pdb

-- ---- all of it

-- the signature at e, 24 bytes of the file header there, the optional header behind them, the headers of the sections behind that
pub record IsImage (b : List ℕ) (x : Said) : Type 0 where
  pub signature : ℕ
  pub format : Format
  pub signed : IsSigned b signature
  pub header : Stand b signature 24
  pub optional : IsOptional b (signature + 24) (number b (signature + 20) 2) format
  pub sections : Stand b (signature + 24 + number b (signature + 20) 2) (40 * number b (signature + 6) 2)
  pub machine : x.machine ≡ number b (signature + 4) 2
  pub time_stamp : x.time_stamp ≡ number b (signature + 8) 4
  pub base : x.base ≡ base_at b (signature + 24) format
  pub size : x.size ≡ number b (signature + 24 + 56) 4
  pub pdb : SaysPdb b (signature + 24) (number b (signature + 20) 2) (number b (signature + 6) 2) format x.pdb
