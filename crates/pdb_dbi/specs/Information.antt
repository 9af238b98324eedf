-- The information stream: which file it is.
use Rattle.std.specs.Prelude.{ℕ, List, length, map, [], ◌∷◌, slice_index, Result, Ok, Err, nat_lt, if◌then◌else◌}
use Rattle.pdb_base.specs.declared.error.Error.{Error}
use Rattle.pdb_base.specs.declared.error.Error.TheVariants.{UnexpectedEof}
use Rattle.pdb_base.specs.Fields.{number}
use Rattle.pdb_dbi.specs.declared.header.HeaderVersion.{HeaderVersion}
use Rattle.pdb_dbi.specs.Header.{version_of}

-- what the stream says, where its names' part stands, and all its bytes
pub record Information : Type 0 where
  pub version : HeaderVersion
  pub signature : ℕ
  pub age : ℕ
  pub guid : List ℕ
  pub names_offset : ℕ
  pub names_size : ℕ
  pub bytes : List ℕ

-- the sixteen bytes from place 12: a field of four and two of two, each greatest byte first, and then eight
abbrev pub guid_of : List ℕ → List ℕ
guid_of b = map (slice_index b) (15 ∷ 14 ∷ 13 ∷ 12 ∷ 17 ∷ 16 ∷ 19 ∷ 18 ∷ 20 ∷ 21 ∷ 22 ∷ 23 ∷ 24 ∷ 25 ∷ 26 ∷ 27 ∷ [])

-- the fields of the first 32 bytes
unfoldable pub information_fields : List ℕ → Information
information_fields b = record {
  version = version_of (number b 0 4);
  signature = number b 4 4;
  age = number b 8 4;
  guid = guid_of b;
  names_offset = 32;
  names_size = number b 28 4;
  bytes = b;
}

-- the stream's fields, where its 32 bytes are there
unfoldable pub information_of : List ℕ → Result Information Error
information_of b = if nat_lt (length b) 32 then Err UnexpectedEof else Ok (information_fields b)
