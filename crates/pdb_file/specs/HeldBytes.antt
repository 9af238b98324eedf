-- What is held of a file.
use Rattle.std.specs.Prelude.{◌≡◌, ℕ, ◌+◌, ◌<◌, ◌≤◌, ◌&&◌, Bool, true, false, Option, Some, None, List, [], length, min, take, drop, nat_le, nat_eq}
use Rattle.std.specs.List.{All, AllPairs, Any, list_all, insert}
use Rattle.std.specs.Str.{bytes_eq}
use Rattle.pdb_base.specs.declared.source.SourceSlice.{SourceSlice}
use Rattle.pdb_base.specs.Source.{State}
use Rattle.pdb_file.specs.declared.run.Run.{Run}

-- a file's size, and the runs of its bytes that are held, in the order of their places
pub record Kept : Type 0 where
  pub size : ℕ
  pub runs : List Run

-- bytes stand in a file at a place
pub record IsPart (file : List ℕ) (at : ℕ) (bytes : List ℕ) : Type 0 where
  pub fits : at + length bytes ≤ length file
  pub same : take (length bytes) (drop at file) ≡ bytes

abbrev pub IsRunOf : List ℕ → Run → Type 0
IsRunOf file r = IsPart file r.at r.bytes.now

-- a file has the bytes that are held
abbrev pub Agrees : List ℕ → Kept → Type 0
Agrees file k = All (IsRunOf file) k.runs

-- and it is of the size
pub record IsOf (file : List ℕ) (k : Kept) : Type 0 where
  pub size : length file ≡ k.size
  pub agrees : Agrees file k

-- where a run ends
abbrev pub end_of : Run → ℕ
end_of r = r.at + length r.bytes.now

-- a run ends before another begins
abbrev pub IsBefore : Run → Run → Type 0
IsBefore r s = end_of r ≤ s.at

-- runs have bytes, lie in the file, in their order, and no byte is held twice
pub record IsKept (k : Kept) : Type 0 where
  pub filled : All (λ r. 0 < length r.bytes.now) k.runs
  pub fits : All (λ r. end_of r ≤ k.size) k.runs
  pub order : AllPairs IsBefore k.runs

-- one run more is held
abbrev pub IsWith : Kept → Run → Kept → Type 0
IsWith old r new = (i : ℕ) × (i ≤ length old.runs) × (new ≡ record { size = old.size; runs = insert old.runs i r })

-- a run has this byte of the file
abbrev pub HasByte : ℕ → Run → Type 0
HasByte at r = (r.at ≤ at) × (at < end_of r)

-- the byte at an offset is held
abbrev pub IsHeldAt : Kept → ℕ → Type 0
IsHeldAt k at = Any (HasByte at) k.runs

-- so is each byte from one offset to another
abbrev pub AreHeld : Kept → ℕ → ℕ → Type 0
AreHeld k from end = (at : ℕ) → from ≤ at → at < end → IsHeldAt k at

-- so is each byte of a slice
abbrev pub IsWholeHeld : Kept → SourceSlice → Type 0
IsWholeHeld k s = AreHeld k s.offset (s.offset + s.size)

-- so is each byte of a slice that the file has
abbrev pub IsAllHeld : Kept → SourceSlice → Type 0
IsAllHeld k s = AreHeld k s.offset (min (s.offset + s.size) k.size)

-- a run can be held: it has a byte, lies in the file, and none of its bytes is held
pub record IsFree (k : Kept) (r : Run) : Type 0 where
  pub filled : 0 < length r.bytes.now
  pub inside : end_of r ≤ k.size
  pub apart : (at : ℕ) → HasByte at r → IsHeldAt k at → ⊥

-- all of a slice stands in one run
abbrev pub StandsIn : SourceSlice → Run → Type 0
StandsIn s r = (r.at ≤ s.offset) × (s.offset + s.size ≤ end_of r)

-- ---- files that have what is held

-- whether a file has a run's bytes
unfoldable pub has_run : List ℕ → Run → Bool
has_run file r = nat_le (end_of r) (length file) && bytes_eq (take (length r.bytes.now) (drop r.at file)) r.bytes.now

-- whether a file is of the size and has all that is held
unfoldable pub has_all : List ℕ → Kept → Bool
has_all file k = nat_eq (length file) k.size && list_all (has_run file) k.runs

-- the bytes of a file, where they are known
abbrev pub known_or_empty : Option (List ℕ) → List ℕ
known_or_empty (Some file) = file
known_or_empty None = []

-- ---- what a source over it is

-- whether these are the bytes that are known
unfoldable pub knows : Option (List ℕ) → List ℕ → Bool
knows None file = false
knows (Some bytes) file = bytes_eq bytes file

-- how many bytes a reader has that is steady, and whose bytes are known
abbrev pub size_where_steady : Bool → Option (List ℕ) → Option ℕ
size_where_steady true (Some bytes) = Some (length bytes)
size_where_steady true None = None
size_where_steady false bytes = None

-- whether that is this size
abbrev pub is_steady_of : ℕ → Option ℕ → Bool
is_steady_of size (Some n) = nat_eq n size
is_steady_of size None = false

-- the file that it means, what is held of it, how many views failed, and what is known of its reader
pub record Seen : Type 0 where
  pub file : List ℕ
  pub kept : Kept
  pub failures : ℕ
  pub steady : Bool
  pub known : Bool

-- what was read is the file's where the file has all that is held
abbrev pub reading : Seen → State
reading s = record { file = s.file; failures = s.failures; steady = s.steady; told = has_all s.file s.kept; known = s.known }

abbrev pub is_inside_of : ℕ → SourceSlice → Bool
is_inside_of size s = nat_le (s.offset + s.size) size
