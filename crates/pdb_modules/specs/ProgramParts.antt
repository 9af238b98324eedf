-- The subsections that a line program is made of: those of lines, and the last one of files' checksums.
use Rattle.std.specs.Prelude.{ℕ, ◌%◌, Bool, ◌==◌, ◌&&◌, nat_lt, if◌then◌else◌, List, [], length, drop, Option, Some, None, Result, Ok, Err}
use Rattle.std.specs.List.{filter_map, fold}
use Rattle.pdb_base.specs.declared.error.Error.{Error}
use Rattle.pdb_base.specs.declared.error.Error.TheVariants.{UnexpectedEof}
use Rattle.pdb_base.specs.Refusal.{◌>>=◌}
use Rattle.pdb_base.specs.Fields.{number}
use Rattle.pdb_base.specs.Left.{Left}
use Rattle.pdb_base.specs.Tiling.{Row, listing}
use Rattle.pdb_base.specs.Reading.{read_row}
use Rattle.pdb_modules.specs.Lines.{Subsection}
use Rattle.pdb_modules.specs.Blocks.{blocks_from}
use Rattle.pdb_modules.specs.KeptRows.{all_entries}
use Rattle.pdb_modules.specs.LineOrder.{ordered}
use Rattle.pdb_modules.specs.Subsections.{PieceBytes, piece_at, piece_length, all_or_fault}

-- a subsection of lines without its header
abbrev pub is_short : PieceBytes → Bool
is_short piece = (piece.kind == 0xf2) && nat_lt (length piece.body) 12

abbrev pub whole_piece : PieceBytes → Result PieceBytes Error
whole_piece piece = if is_short piece then Err UnexpectedEof else Ok piece

-- the subsection at p, as a line program reads it
unfoldable pub whole_piece_at : List ℕ → ℕ → Result PieceBytes Error
whole_piece_at b p = piece_at b p >>= whole_piece

abbrev pub whole_pieces : Row PieceBytes
whole_pieces = read_row whole_piece_at piece_length

unfoldable pub whole_pieces_from : List ℕ → ℕ → Left PieceBytes
whole_pieces_from b p = listing whole_pieces b p

-- bit 0 of its flags: its entries have columns
abbrev pub has_columns : List ℕ → Bool
has_columns body = number body 6 2 % 2 == 1

-- the subsection of lines of these bytes: u32 offset, u16 section, u16 flags, u32 code size, and then its blocks
abbrev pub lines_subsection : List ℕ → Subsection
lines_subsection body = record {
  place = record { offset = number body 0 4; section = number body 4 2 };
  code_size = number body 8 4;
  bytes = drop 12 body;
  entries = all_entries (has_columns body) (blocks_from (has_columns body) (drop 12 body) 0).items;
  fault = (blocks_from (has_columns body) (drop 12 body) 0).fault;
}

-- a subsection of lines, if it is one
abbrev pub as_lines : PieceBytes → Option Subsection
as_lines piece = if piece.kind == 0xf2 then Some (lines_subsection piece.body) else None

-- the subsections of lines before the end or the fault, in the file's order
abbrev pub lines_listed : List ℕ → List Subsection
lines_listed b = filter_map as_lines (whole_pieces_from b 0).items

-- the bytes of the last one of files' checksums, or those before, where there is none
abbrev pub later_checksums : List ℕ → PieceBytes → List ℕ
later_checksums before piece = if piece.kind == 0xf4 then piece.body else before

abbrev pub last_checksums : List ℕ → List PieceBytes → List ℕ
last_checksums before ps = fold later_checksums before ps

-- the subsections of lines in their order, and the checksums
pub record PartsOf : Type 0 where
  pub subsections : List Subsection
  pub checksums : List ℕ

abbrev pub parts_among : List PieceBytes → PartsOf
parts_among ps = record { subsections = ordered (filter_map as_lines ps); checksums = last_checksums [] ps }

unfoldable pub parts_of : List ℕ → Result PartsOf Error
parts_of b = all_or_fault (whole_pieces_from b 0).items (whole_pieces_from b 0).fault >>= λ ps. Ok (parts_among ps)

-- the checksums alone
unfoldable pub checksums_in : List ℕ → Result (List ℕ) Error
checksums_in b = parts_of b >>= λ ps. Ok ps.checksums
