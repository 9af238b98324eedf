-- The subsections of a module's lines data with whole headers, and the turns of a loop that keeps the last one of checksums.
use Rattle.std.proofs.Common.{◌≡◌, ℕ, ◌<◌, ◌≤◌, Bool, true, false, cond, List, [], ◌∷◌, length, Option, Some, None, Ok, Err, Result, refl, sym, ap, subst, ◌∙◌}
use Rattle.std.proofs.lemmas.Bool.{eq-eqb, ne_eqb}
use Rattle.pdb_base.specs.declared.error.Error.{Error}
use Rattle.pdb_base.specs.declared.error.Error.TheVariants.{UnexpectedEof}
use Rattle.pdb_base.specs.Cursor.{Cursor, Reads}
use Rattle.pdb_base.specs.Left.{Follows}
use Rattle.pdb_base.specs.Refusal.{◌>>=◌}
use Rattle.pdb_base.proofs.Places.{bind_ok}
use Rattle.pdb_base.proofs.Readings.{ReadsInside}
use Rattle.pdb_modules.specs.declared.subsections.Piece.{Piece}
use Rattle.pdb_modules.specs.Subsections.{PieceBytes, piece_at, piece_length, all_or_fault}
use Rattle.pdb_modules.specs.SubsectionViews.{bytes_of_piece}
use Rattle.pdb_modules.specs.ProgramParts.{is_short, whole_piece, whole_piece_at, whole_pieces_from, later_checksums, last_checksums, parts_among, parts_of, checksums_in}
use Rattle.pdb_modules.proofs.Refusals.{NotIo, not_io_then}
use Rattle.pdb_modules.proofs.SubsectionLemmas.{pieces_within, piece_not_io}
use Rattle.pdb_modules.proofs.Turns.{turn_follows, turn_fault, turn_end}

same_piece : (short : Bool) (x y : PieceBytes) → cond short (Err UnexpectedEof) (Ok x) ≡ Ok y → x ≡ y
same_piece true x y h = absurd cc
same_piece false x y h = cc

pub whole_within : ReadsInside whole_piece_at piece_length
unfolding whole_piece_at
whole_within = record {
  inside = λ b p x e.
      let (piece, e1, rest) = bind_ok (piece_at b p) whole_piece x e in
      let same = same_piece (is_short piece) piece x rest in
      pieces_within.inside b p x (e1 ∙ ap (λ (y : PieceBytes). Ok y) same);
}

short_not_io : (short : Bool) (x : PieceBytes) → NotIo (cond short (Err UnexpectedEof) (Ok x))
short_not_io true x = tt
short_not_io false x = tt

pub whole_not_io : (b : List ℕ) (p : ℕ) → NotIo (whole_piece_at b p)
unfolding whole_piece_at
whole_not_io b p = not_io_then (piece_at b p) whole_piece (piece_not_io b p) (λ piece. short_not_io (is_short piece) piece)

abbrev pub checksums_from : List ℕ → List ℕ → ℕ → List ℕ
checksums_from b before place = last_checksums before (whole_pieces_from b place).items

-- the last one of checksums before a place is kept
pub record IsKeeping (b : List ℕ) (place : ℕ) (checksums : List ℕ) : Type 0 where
  pub last : checksums_from b checksums place ≡ checksums_from b [] 0
  pub told : (whole_pieces_from b place).fault ≡ (whole_pieces_from b 0).fault

pub keeping_begins : (b : List ℕ) → IsKeeping b 0 []
keeping_begins b = record { last = refl; told = refl }

module _ (b : List ℕ) (old new : Cursor) (same : old.bytes ≡ b) (checksums : List ℕ) (keeping : IsKeeping b old.place checksums) where
  module _ (x : Piece) (reads : Reads bytes_of_piece old new (Ok x) (whole_piece_at old.bytes old.place) (piece_length old.place)) where
    pub followed : Follows (whole_pieces_from b old.place) (bytes_of_piece x ∷ []) (whole_pieces_from b new.place)
    unfolding whole_pieces_from
    followed = turn_follows whole_piece_at piece_length whole_within bytes_of_piece b old new same x reads

    told_on : (whole_pieces_from b new.place).fault ≡ (whole_pieces_from b 0).fault
    told_on = sym followed.1 ∙ keeping.told

    last_on : checksums_from b (later_checksums checksums (bytes_of_piece x)) new.place ≡ checksums_from b [] 0
    last_on = sym (ap (last_checksums checksums) followed.0) ∙ keeping.last

    -- one of another kind
    pub kept : (x.kind ≡ 0xf4 → ⊥) → IsKeeping b new.place checksums
    kept other = record {
      last = sym (ap (λ (t : Bool). checksums_from b (cond t x.body.now checksums) new.place) (ne_eqb x.kind 0xf4 other)) ∙ last_on;
      told = told_on;
    }

    -- one of checksums
    pub renewed : x.kind ≡ 0xf4 → IsKeeping b new.place x.body.now
    renewed is = record {
      last = sym (ap (λ (t : Bool). checksums_from b (cond t x.body.now checksums) new.place) (eq-eqb x.kind 0xf4 is)) ∙ last_on;
      told = told_on;
    }

  -- a fault
  pub faulty : (e : Error) → old.place < length b → Reads bytes_of_piece old new (Err e) (whole_piece_at old.bytes old.place) (piece_length old.place) → (whole_pieces_from b 0).fault ≡ Some e
  unfolding whole_pieces_from
  faulty e h reads =
      sym keeping.told ∙ (turn_fault whole_piece_at piece_length whole_within bytes_of_piece b old new same e h reads).1

  abbrev PiecesEnd : Option Error → Type 0
  PiecesEnd f = ((whole_pieces_from b old.place).items ≡ []) × ((whole_pieces_from b old.place).fault ≡ f)

  -- the end
  pub end_ends : length b ≤ old.place → PiecesEnd None
  unfolding whole_pieces_from
  end_ends h = turn_end whole_piece_at piece_length whole_within bytes_of_piece b old new same h

  pub whole_to_end : length b ≤ old.place → (whole_pieces_from b 0).fault ≡ None
  whole_to_end h = sym keeping.told ∙ (end_ends h).1

  pub all_kept : length b ≤ old.place → checksums ≡ checksums_from b [] 0
  all_kept h = ap (last_checksums checksums) (sym (end_ends h).0) ∙ keeping.last

-- what the bytes of checksums are by the fault, and by the last one
pub checksums_fail : (b : List ℕ) (e : Error) → (whole_pieces_from b 0).fault ≡ Some e → checksums_in b ≡ Err e
unfolding checksums_in parts_of
checksums_fail b e is = ap (λ (f : Option Error). all_or_fault (whole_pieces_from b 0).items f >>= (λ ps. Ok (parts_among ps)) >>= (λ ps. Ok ps.checksums)) is

pub checksums_end : (b checksums : List ℕ) → (whole_pieces_from b 0).fault ≡ None → checksums ≡ checksums_from b [] 0 → checksums_in b ≡ Ok checksums
unfolding checksums_in parts_of
checksums_end b checksums ended is =
    ap (λ (f : Option Error). all_or_fault (whole_pieces_from b 0).items f >>= (λ ps. Ok (parts_among ps)) >>= (λ ps. Ok ps.checksums)) ended ∙ ap Ok (sym is)
