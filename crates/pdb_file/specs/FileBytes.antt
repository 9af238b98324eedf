-- The bytes of an opened file.
use Rattle.std.specs.Prelude.{ℕ, List, length}
use Rattle.pdb_file.specs.declared.bytes.FileBytes.{FileBytes}
use Rattle.pdb_file.specs.declared.bytes.FileBytes.TheVariants.{InParts, Whole}

-- what holds of a file that is read in parts, and of bytes in memory
abbrev pub bytes_by : {R X : Type 0} → (R → X) → (List ℕ → X) → FileBytes R → X
bytes_by of_file of_bytes (InParts file size) = of_file file
bytes_by of_file of_bytes (Whole bytes) = of_bytes bytes.items

-- how many there are
abbrev pub size_by : {R : Type 0} → FileBytes R → ℕ
size_by (InParts file size) = size
size_by (Whole bytes) = length bytes.items
