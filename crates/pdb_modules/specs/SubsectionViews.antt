-- What contracts see of subsections.
use Rattle.std.specs.Prelude.{ℕ, List, Option, option_map}
use Rattle.std.specs.Borrow.{Bor}
use Rattle.pdb_modules.specs.declared.subsections.Piece.{Piece}
use Rattle.pdb_modules.specs.Subsections.{PieceBytes}

abbrev pub bytes_of_piece : Piece → PieceBytes
bytes_of_piece piece = record { kind = piece.kind; body = piece.body.now }

-- the bytes of a part, if there is one
abbrev pub seen_part : Option (Bor (List ℕ)) → Option (List ℕ)
seen_part part = option_map (λ s. s.now) part
