-- The files of a module: the checksums of their contents, which stand one after another.
use Rattle.std.specs.Prelude.{◌≡◌, ℕ, ◌+◌, ◌==◌, ◌&&◌, Bool, true, false, nat_lt, if◌then◌else◌, List, [], length, map, Result, Ok, Err}
use Rattle.std.specs.Str.{bytes_eq}
use Rattle.pdb_base.specs.declared.error.Error.{Error}
use Rattle.pdb_base.specs.declared.error.Error.TheVariants.{UnexpectedEof, UnimplementedFileChecksumKind, InvalidFileChecksumOffset}
use Rattle.pdb_base.specs.Refusal.{◌>>=◌}
use Rattle.pdb_base.specs.Fields.{number, bytes_at, padding, aligned_at}
use Rattle.pdb_base.specs.Left.{Left}
use Rattle.pdb_base.specs.Tiling.{Row, listing}
use Rattle.pdb_base.specs.Reading.{read_row}

-- a record: where it stands, the place of the file's name in the string table, the digest's kind, and its bytes
pub record FileEntry : Type 0 where
  pub place : ℕ
  pub name : ℕ
  pub kind : ℕ
  pub digest : List ℕ

-- the kinds 0 to 3 are known
abbrev pub known_kind : ℕ → Result ℕ Error
known_kind kind = if nat_lt 3 kind then Err (UnimplementedFileChecksumKind kind) else Ok kind

-- the record at p: u32 name, u8 size, u8 kind, so many bytes, and padding to four from the part's start
unfoldable pub entry_at : List ℕ → ℕ → Result FileEntry Error
entry_at b p = do
  header ← bytes_at b p 6
  digest ← bytes_at b (p + 6) (number header 4 1)
  kind ← known_kind (number header 5 1)
  padded ← aligned_at b (p + 6 + number header 4 1) 4
  Ok (record { place = p; name = number header 0 4; kind = kind; digest = digest })

abbrev pub entry_length : ℕ → FileEntry → ℕ
entry_length p entry = 6 + length entry.digest + padding (p + 6 + length entry.digest) 4

abbrev pub entries : Row FileEntry
entries = read_row entry_at entry_length

unfoldable pub entries_from : List ℕ → ℕ → Left FileEntry
entries_from b p = listing entries b p

-- ---- what they tell

-- a file's checksum: none, or the bytes of a digest of one of three kinds
pub data Checksum : Type 0 where
  absent : Checksum
  md5 : List ℕ → Checksum
  sha1 : List ℕ → Checksum
  sha256 : List ℕ → Checksum

abbrev pub checksum_of : ℕ → List ℕ → Checksum
checksum_of kind digest =
    if kind == 0 then absent
    else if kind == 1 then md5 digest
    else if kind == 2 then sha1 digest
    else sha256 digest

-- a file: the place of its name in the string table, and its checksum
pub record FileOf : Type 0 where
  pub name : ℕ
  pub checksum : Checksum

abbrev pub file_of : FileEntry → FileOf
file_of entry = record { name = entry.name; checksum = checksum_of entry.kind entry.digest }

abbrev pub files_left : Left FileEntry → Left FileOf
files_left left = record { items = map file_of left.items; fault = left.fault }

-- the files of a part
unfoldable pub files_of : List ℕ → Left FileOf
files_of part = files_left (entries_from part 0)

-- the file of the record that begins at place i: at the part's end there is none, and past it no byte
unfoldable pub file_at : List ℕ → ℕ → Result FileOf Error
file_at part i =
    if i == length part then Err (InvalidFileChecksumOffset i)
    else if nat_lt (length part) i then Err UnexpectedEof
    else entry_at part i >>= λ entry. Ok (file_of entry)

-- ---- equality

abbrev pub digest_kind : Checksum → ℕ
digest_kind absent = 0
digest_kind (md5 b) = 1
digest_kind (sha1 b) = 2
digest_kind (sha256 b) = 3

abbrev pub digest_bytes : Checksum → List ℕ
digest_bytes absent = []
digest_bytes (md5 b) = b
digest_bytes (sha1 b) = b
digest_bytes (sha256 b) = b

abbrev pub has_digest : Checksum → Bool
has_digest absent = false
has_digest (md5 b) = true
has_digest (sha1 b) = true
has_digest (sha256 b) = true

-- two checksums are of one digest kind and have equal bytes; one without a digest equals none
abbrev pub same_sums : Checksum → Checksum → Bool
same_sums a b = ((digest_kind a == digest_kind b) && bytes_eq (digest_bytes a) (digest_bytes b)) && (has_digest a && has_digest b)

-- the same, case by case
abbrev pub HaveOneDigest : Checksum → Checksum → Type 0
HaveOneDigest (md5 x) (md5 y) = x ≡ y
HaveOneDigest (sha1 x) (sha1 y) = x ≡ y
HaveOneDigest (sha256 x) (sha256 y) = x ≡ y
HaveOneDigest a b = ⊥
