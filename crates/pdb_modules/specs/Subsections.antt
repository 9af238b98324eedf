-- The subsections of a module's lines data, which stand one after another.
use Rattle.std.specs.Prelude.{ℕ, ◌+◌, Bool, ◌==◌, ◌&&◌, ◌||◌, nat_le, if◌then◌else◌, List, length, Option, Some, None, Result, Ok, Err}
use Rattle.std.specs.List.{find}
use Rattle.pdb_base.specs.declared.error.Error.{Error}
use Rattle.pdb_base.specs.declared.error.Error.TheVariants.{UnimplementedDebugSubsection}
use Rattle.pdb_base.specs.Refusal.{◌>>=◌}
use Rattle.pdb_base.specs.Fields.{number_at, bytes_at}
use Rattle.pdb_base.specs.Left.{Left}
use Rattle.pdb_base.specs.Tiling.{Row, listing}
use Rattle.pdb_base.specs.Reading.{read_row}

-- a subsection: its kind, and the bytes behind its header
pub record PieceBytes : Type 0 where
  pub kind : ℕ
  pub body : List ℕ

-- the kinds that are known, and those with the top bit, which are passed over
abbrev pub is_known : ℕ → Bool
is_known kind = (nat_le 0xf1 kind && nat_le kind 0xfd) || nat_le 0x80000000 kind

abbrev pub piece_of : ℕ → List ℕ → Result PieceBytes Error
piece_of kind body = if is_known kind then Ok (record { kind = kind; body = body }) else Err (UnimplementedDebugSubsection kind)

-- the subsection at p: a u32 kind, a u32 size, so many bytes
unfoldable pub piece_at : List ℕ → ℕ → Result PieceBytes Error
piece_at b p = do
  kind ← number_at b p 4
  size ← number_at b (p + 4) 4
  body ← bytes_at b (p + 8) size
  piece_of kind body

abbrev pub piece_length : ℕ → PieceBytes → ℕ
piece_length p piece = 8 + length piece.body

abbrev pub pieces : Row PieceBytes
pieces = read_row piece_at piece_length

unfoldable pub pieces_from : List ℕ → ℕ → Left PieceBytes
pieces_from b p = listing pieces b p

-- a list that is taken whole: its items, or its fault alone
abbrev pub all_or_fault : {A : Type 0} → List A → Option Error → Result (List A) Error
all_or_fault xs None = Ok xs
all_or_fault xs (Some e) = Err e

-- ---- the first of a kind

abbrev pub is_of : ℕ → PieceBytes → Bool
is_of kind piece = piece.kind == kind

-- the bytes of a subsection that was found, or none; a fault counts only where none was found
abbrev pub found_part : Option PieceBytes → Option Error → Result (Option (List ℕ)) Error
found_part (Some piece) f = Ok (Some piece.body)
found_part None None = Ok None
found_part None (Some e) = Err e

unfoldable pub first_part : ℕ → List ℕ → Result (Option (List ℕ)) Error
first_part kind b = found_part (find (is_of kind) (pieces_from b 0).items) (pieces_from b 0).fault
