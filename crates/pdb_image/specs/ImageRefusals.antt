-- Why an image can't be read, as facts on places alone: the first part of the format that isn't there, or is another.
use Rattle.std.specs.Prelude.{◌≡◌, ◌≢◌, ◌⊎◌, ℕ, ◌+◌, ◌*◌, ◌<◌, ◌≤◌, true, false, List, length, slice_index, take, drop, nat_eq, codes}
use Rattle.std.specs.List.{starts_with}
use Rattle.pdb_base.specs.Fields.{number}
use Rattle.pdb_image.specs.declared.error.ImageError.{ImageError}
use Rattle.pdb_image.specs.declared.error.ImageError.TheVariants.{NotAnImage, UnexpectedEof, NoSignature, UnknownOptionalHeader, Nb10, UnknownCodeView}
use Rattle.pdb_image.specs.declared.header.Format.{Format}
use Rattle.pdb_image.specs.Headers.{fixed_size}
use Rattle.pdb_image.specs.ImagePlaces.{HasDirectory, Holds, IsCodeView, IsFormat, IsOptional, IsPlace, IsSigned, Stand, address, entries}

-- `MZ`
abbrev pub Begins : List ℕ → Type 0
Begins b = (slice_index b 0 ≡ 0x4d) × (slice_index b 1 ≡ 0x5a)

-- up to the signature
pub data Unsigned (b : List ℕ) : ImageError → Type 0 where
  OtherFront : (Begins b → ⊥) → Unsigned b NotAnImage
  ShortFront : Begins b → length b < 64 → Unsigned b UnexpectedEof
  CutSignature : Begins b → Stand b 0 64 → length b < number b 60 4 + 4 → Unsigned b UnexpectedEof
  OtherSignature : Begins b → Stand b 0 64 → Stand b (number b 60 4) 4 → number b (number b 60 4) 4 ≢ 0x4550 → Unsigned b NoSignature

-- the optional header at o, of s bytes
pub data NoOptional (b : List ℕ) (o s : ℕ) : ImageError → Type 0 where
  NoFormat : ((s < 2) ⊎ (length b < o + 2)) → NoOptional b o s UnexpectedEof
  OtherFormat : 2 ≤ s → Stand b o 2 → number b o 2 ≢ 0x10b → number b o 2 ≢ 0x20b → NoOptional b o s UnknownOptionalHeader
  CutOptional : (f : Format) → 2 ≤ s → Stand b o 2 → IsFormat b o f → ((s < fixed_size f) ⊎ (length b < o + s)) → NoOptional b o s UnexpectedEof

-- the k entries at address r, of an image with n sections whose headers begin at t
pub data NoEntries (b : List ℕ) (t n r k : ℕ) : ImageError → Type 0 where
  NoSection : ((i : ℕ) → i < n → Holds b r (t + 40 * i) → ⊥) → NoEntries b t n r k UnexpectedEof
  CutEntries : (p : ℕ) → IsPlace b t n r p → length b < p + 28 * k → NoEntries b t n r k UnexpectedEof

-- a record of these bytes
pub data NoReference (r : List ℕ) : ImageError → Type 0 where
  NoFour : length r < 4 → NoReference r UnexpectedEof
  OlderRecord : 4 ≤ length r → starts_with nat_eq r (codes "NB10") ≡ true → NoReference r Nb10
  OtherRecord : 4 ≤ length r → starts_with nat_eq r (codes "NB10") ≡ false → starts_with nat_eq r (codes "RSDS") ≡ false → NoReference r UnknownCodeView
  CutRecord : starts_with nat_eq r (codes "RSDS") ≡ true → length r < 24 → NoReference r UnexpectedEof

-- the record of the first of k entries at p that is of type 2
pub data NoRecord (b : List ℕ) (p k : ℕ) : ImageError → Type 0 where
  NotThere : (i : ℕ) → IsCodeView b p k i → length b < number b (p + 28 * i + 24) 4 + number b (p + 28 * i + 16) 4 → NoRecord b p k UnexpectedEof
  Refused : (i : ℕ) (e : ImageError) → IsCodeView b p k i → Stand b (number b (p + 28 * i + 24) 4) (number b (p + 28 * i + 16) 4)
      → NoReference (take (number b (p + 28 * i + 16) 4) (drop (number b (p + 28 * i + 24) 4) b)) e → NoRecord b p k e

-- the sections and the debug directory, behind an optional header at o of s bytes
pub data NoPdb (b : List ℕ) (o s n : ℕ) (f : Format) : ImageError → Type 0 where
  CutSections : length b < o + s + 40 * n → NoPdb b o s n f UnexpectedEof
  NoPlace : (e : ImageError) → Stand b (o + s) (40 * n) → HasDirectory b o s f → 0 < entries b o f → NoEntries b (o + s) n (address b o f) (entries b o f) e → NoPdb b o s n f e
  NoneNamed : (p : ℕ) (e : ImageError) → Stand b (o + s) (40 * n) → HasDirectory b o s f → IsPlace b (o + s) n (address b o f) p
      → Stand b p (28 * entries b o f) → NoRecord b p (entries b o f) e → NoPdb b o s n f e

-- the first error of an image
pub data IsRefused (b : List ℕ) : ImageError → Type 0 where
  InFront : (e : ImageError) → Unsigned b e → IsRefused b e
  InHeader : (at : ℕ) → IsSigned b at → length b < at + 24 → IsRefused b UnexpectedEof
  InOptional : (at : ℕ) (e : ImageError) → IsSigned b at → Stand b at 24 → NoOptional b (at + 24) (number b (at + 20) 2) e → IsRefused b e
  Behind : (at : ℕ) (f : Format) (e : ImageError) → IsSigned b at → Stand b at 24 → IsOptional b (at + 24) (number b (at + 20) 2) f
      → NoPdb b (at + 24) (number b (at + 20) 2) (number b (at + 6) 2) f e → IsRefused b e
