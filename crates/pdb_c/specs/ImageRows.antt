-- What an image says, as a row, and the numbers of its errors.
use Rattle.std.specs.Prelude.{◌≡◌, ℕ, List, [], replicate, Option, Some, None, Result, Ok, Err}
use Rattle.std.specs.Option.{unwrap_or}
use Rattle.pdb_image.specs.declared.error.ImageError.{ImageError}
use Rattle.pdb_image.specs.declared.error.ImageError.TheVariants.{NotAnImage, UnexpectedEof, NoSignature, UnknownOptionalHeader, Nb10, UnknownCodeView}
use Rattle.pdb_image.specs.Debug.{Reference}
use Rattle.pdb_image.specs.Images.{Said}
use Rattle.pdb_c.specs.Numbers.{guid_bytes}
use Rattle.pdb_c.specs.declared.image.PdbImage.{PdbImage}

-- the number of an error: 1 as that of a PDB file of which bytes are missing, and else one behind the numbers of other codes
abbrev pub image_code : ImageError → ℕ
image_code UnexpectedEof = 1
image_code NotAnImage = 34
image_code NoSignature = 35
image_code UnknownOptionalHeader = 36
image_code Nb10 = 37
image_code UnknownCodeView = 38

-- what a contract sees of a row
pub record ImageRow : Type 0 where
  pub path : List ℕ
  pub base : ℕ
  pub guid : List ℕ
  pub guid_bytes : List ℕ
  pub machine : ℕ
  pub time_stamp : ℕ
  pub size : ℕ
  pub age : ℕ
  pub has_pdb : ℕ

abbrev pub image_seen : PdbImage → ImageRow
image_seen i = record { path = i.path.now; base = i.base; guid = i.guid; guid_bytes = i.guid_bytes; machine = i.machine; time_stamp = i.time_stamp; size = i.size; age = i.age; has_pdb = i.has_pdb }

-- what stands in the row of an image that names no PDB
abbrev pub no_reference : Reference
no_reference = record { guid = replicate 16 0; age = 0; path = [] }

-- 1 where a PDB is named
abbrev pub names_pdb : Option Reference → ℕ
names_pdb None = 0
names_pdb (Some r) = 1

-- the row of what an image says
abbrev pub image_row : Said → ImageRow
image_row s = record {
  path = (unwrap_or s.pdb no_reference).path;
  base = s.base;
  guid = (unwrap_or s.pdb no_reference).guid;
  guid_bytes = guid_bytes (unwrap_or s.pdb no_reference).guid;
  machine = s.machine;
  time_stamp = s.time_stamp;
  size = s.size;
  age = (unwrap_or s.pdb no_reference).age;
  has_pdb = names_pdb s.pdb;
}

-- the code of a call, and the row before it and behind it: what the image says, or its error
abbrev pub ImageTold : ℕ → ImageRow → ImageRow → Result Said ImageError → Type 0
ImageTold code old new (Ok s) = (code ≡ 0) × (new ≡ image_row s)
ImageTold code old new (Err e) = (code ≡ image_code e) × (new ≡ old)
