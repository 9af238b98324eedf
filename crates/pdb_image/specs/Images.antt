-- What an image says: its machine, its load address, its own key, and the PDB that it names.
use Rattle.std.specs.Prelude.{ℕ, ◌+◌, List, Option, Some, None, Result, Ok}
use Rattle.pdb_image.specs.declared.error.ImageError.{ImageError}
use Rattle.pdb_image.specs.declared.header.FileHeader.{FileHeader}
use Rattle.pdb_image.specs.declared.header.OptionalHeader.{OptionalHeader}
use Rattle.pdb_image.specs.declared.image.Image.{Image}
use Rattle.pdb_image.specs.declared.record.PdbReference.{PdbReference}
use Rattle.std.specs.Option.{option_map}
use Rattle.pdb_image.specs.Parts.{◌>>=◌}
use Rattle.pdb_image.specs.Headers.{file_header_of, optional_header_at}
use Rattle.pdb_image.specs.Debug.{Reference, directory_of, code_view_in, reference_of}

pub record Said : Type 0 where
  pub machine : ℕ
  pub base : ℕ
  pub time_stamp : ℕ
  pub size : ℕ
  pub pdb : Option Reference

-- what a contract sees of both structs
abbrev pub reference : PdbReference → Reference
reference r = record { guid = r.guid; age = r.age; path = r.path.now }

abbrev pub said : Image → Said
said i = record { machine = i.machine; base = i.base; time_stamp = i.time_stamp; size = i.size; pdb = option_map reference i.pdb }

-- what a record names, where there is one
abbrev pub named_by : Option (List ℕ) → Result (Option Reference) ImageError
named_by None = Ok None
named_by (Some record_bytes) = reference_of record_bytes >>= λ r. Ok (Some r)

-- the PDB that an image of these headers names, where it names one
unfoldable pub pdb_of : List ℕ → ℕ → OptionalHeader → Result (Option Reference) ImageError
pdb_of b n h = code_view_in b (h.at + h.size) n (directory_of b h) >>= named_by

abbrev pub said_of : FileHeader → OptionalHeader → Option Reference → Said
said_of f h pdb = record { machine = f.machine; base = h.base; time_stamp = f.time_stamp; size = h.size_of_image; pdb = pdb }

-- what an image says, or its first error
unfoldable pub image_of : List ℕ → Result Said ImageError
image_of b = file_header_of b >>= λ f. optional_header_at b (f.at + 24) f.optional_size >>= λ h. pdb_of b f.sections h >>= λ pdb. Ok (said_of f h pdb)
