-- Files as rows.
use Rattle.std.specs.Prelude.{ℕ, List, Result}
use Rattle.pdb.specs.Error.{Error}
use Rattle.pdb.specs.Files.{FileEntry, file_of, digest_kind, digest_bytes, entries_from}
use Rattle.pdb.specs.LineProgram.{ProgramOf}
use Rattle.pdb_c.specs.Lists.{IsListed, Obtained}
use Rattle.pdb_c.specs.declared.files.PdbFile.{PdbFile}

-- what is told of a file: the places of its record and of its name, and its checksum's kind and bytes
pub record FileTold : Type 0 where
  pub index : ℕ
  pub name : ℕ
  pub kind : ℕ
  pub checksum : List ℕ

-- what a record of the checksums tells
abbrev pub file_told : FileEntry → FileTold
file_told e = record {
  index = e.place;
  name = (file_of e).name;
  kind = digest_kind (file_of e).checksum;
  checksum = digest_bytes (file_of e).checksum;
}

-- what a row tells
abbrev pub file_row : PdbFile → FileTold
file_row y = record { index = y.index; name = y.name; kind = y.kind; checksum = y.checksum.now }

-- what a call put of the files of a module: the records of its checksums
abbrev pub FilesTold : ℕ → List PdbFile → List PdbFile → ℕ → Result ProgramOf Error → Type 0
FilesTold code old new count read = Obtained (λ p. IsListed file_row file_told code old new count (entries_from p.checksums 0)) code old new count read
