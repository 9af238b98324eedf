-- The inlined functions of a module, which stand one after another.
use Rattle.std.specs.Prelude.{ℕ, ◌+◌, ◌*◌, ◌==◌, Bool, if◌then◌else◌, List, [], length, drop, find, Option, Result, Ok}
use Rattle.pdb_base.specs.declared.error.Error.{Error}
use Rattle.pdb_base.specs.Refusal.{◌>>=◌}
use Rattle.pdb_base.specs.Fields.{number, number_at, bytes_at}
use Rattle.pdb_base.specs.Left.{Left}
use Rattle.pdb_base.specs.Tiling.{Row, listing}
use Rattle.pdb_base.specs.Reading.{read_row}

-- an inlined function: the index of its id, the file and the line in which it begins, and the bytes of further files
pub record InlineeEntry : Type 0 where
  pub index : ℕ
  pub file_index : ℕ
  pub line : ℕ
  pub extra_files : List ℕ

-- the further files at p, where there may be any: a u32 count, and so many numbers of four bytes
abbrev pub extra_files_at : Bool → List ℕ → ℕ → Result (List ℕ) Error
extra_files_at extended b p = if extended then (number_at b p 4 >>= λ count. bytes_at b (p + 4) (4 * count)) else Ok []

abbrev pub extra_length : Bool → List ℕ → ℕ
extra_length extended files = if extended then 4 + length files else 0

abbrev pub inlinee_of : List ℕ → List ℕ → InlineeEntry
inlinee_of fields files = record { index = number fields 0 4; file_index = number fields 4 4; line = number fields 8 4; extra_files = files }

-- the inlined function at p: u32 id, file and line, and then the further files
unfoldable pub inlinee_at : Bool → List ℕ → ℕ → Result InlineeEntry Error
inlinee_at extended b p = do
  fields ← bytes_at b p 12
  files ← extra_files_at extended b (p + 12)
  Ok (inlinee_of fields files)

abbrev pub inlinee_length : Bool → ℕ → InlineeEntry → ℕ
inlinee_length extended p x = 12 + extra_length extended x.extra_files

abbrev pub inlinees : Bool → Row InlineeEntry
inlinees extended = read_row (inlinee_at extended) (inlinee_length extended)

unfoldable pub inlinees_from : Bool → List ℕ → ℕ → Left InlineeEntry
inlinees_from extended b p = listing (inlinees extended) b p

-- the inlined functions of a part, which stand behind a u32 signature: at 1 they may have further files
unfoldable pub inlinees_in : List ℕ → Result (Left InlineeEntry) Error
inlinees_in part = number_at part 0 4 >>= λ signature. Ok (inlinees_from (signature == 1) (drop 4 part) 0)

-- the first inlined function with an id
abbrev pub inlinee_with : List InlineeEntry → ℕ → Option InlineeEntry
inlinee_with xs id = find (λ x. x.index == id) xs
