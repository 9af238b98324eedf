-- The subsections of lines data, and the search for the first of a kind.
use Rattle.std.proofs.Common.{◌≡◌, ℕ, ◌+◌, ◌<◌, ◌≤◌, Bool, true, false, cond, List, [], ◌∷◌, length, drop, length-take, Option, Some, None, Ok, Err, Result, refl, sym, ap, subst, ◌∙◌, arith}
use Rattle.std.specs.List.{find}
use Rattle.std.proofs.lemmas.Bool.{eq-eqb, ne_eqb}
use Rattle.pdb_base.specs.declared.error.Error.{Error}
use Rattle.pdb_base.specs.declared.error.Error.TheVariants.{UnimplementedDebugSubsection, IoError}
use Rattle.pdb_base.specs.Cursor.{Cursor, Reads}
use Rattle.pdb_base.specs.Fields.{number_at, bytes_at}
use Rattle.pdb_base.specs.Left.{Follows}
use Rattle.pdb_base.specs.Refusal.{◌>>=◌}
use Rattle.pdb_base.proofs.Places.{bind_ok, slice_is}
use Rattle.pdb_base.proofs.Readings.{ReadsInside}
use Rattle.pdb_modules.specs.declared.subsections.Piece.{Piece}
use Rattle.pdb_modules.specs.Subsections.{PieceBytes, is_known, piece_of, piece_at, piece_length, pieces_from, is_of, found_part, first_part}
use Rattle.pdb_modules.specs.SubsectionViews.{bytes_of_piece}
use Rattle.pdb_modules.proofs.Refusals.{NotIo, not_io_then, number_not_io, bytes_not_io}
use Rattle.pdb_modules.proofs.Turns.{turn_follows, turn_fault, turn_end}

body_is : (known : Bool) (kind : ℕ) (body : List ℕ) (f : Error) (x : PieceBytes) → cond known (Ok (record { kind = kind; body = body })) (Err f) ≡ Ok x → x.body ≡ body
body_is true kind body f x h = let is : record { kind = kind; body = body } ≡ x = cc in ap (λ (x : PieceBytes). x.body) (sym is)
body_is false kind body f x h = absurd cc

piece_ends : (b : List ℕ) (p : ℕ) (x : PieceBytes) → piece_at b p ≡ Ok x → p + (8 + length x.body) ≤ length b
unfolding piece_at
piece_ends b p x e =
    let (kind, e1, rest1) = bind_ok (number_at b p 4) (λ kind. number_at b (p + 4) 4 >>= λ size. bytes_at b (p + 8) size >>= λ body. piece_of kind body) x e in
    let (size, e2, rest2) = bind_ok (number_at b (p + 4) 4) (λ size. bytes_at b (p + 8) size >>= λ body. piece_of kind body) x rest1 in
    let (body, e3, rest3) = bind_ok (bytes_at b (p + 8) size) (λ body. piece_of kind body) x rest2 in
    let there = (slice_is b (p + 8) size body e3).there in
    let value = (slice_is b (p + 8) size body e3).value in
    omega (arith, ap length (body_is (is_known kind) kind body (UnimplementedDebugSubsection kind) x rest3), ap length value, length-take size (drop (p + 8) b))

pub pieces_within : ReadsInside piece_at piece_length
pieces_within = record { inside = λ b p x e. let ends = piece_ends b p x e in (omega arith, omega (arith, ends)) }

kind_not_io : (known : Bool) (kind : ℕ) (x : PieceBytes) → NotIo (cond known (Ok x) (Err (UnimplementedDebugSubsection kind)))
kind_not_io true kind x = tt
kind_not_io false kind x = tt

pub piece_not_io : (b : List ℕ) (p : ℕ) → NotIo (piece_at b p)
unfolding piece_at
piece_not_io b p =
    not_io_then (number_at b p 4) (λ kind. number_at b (p + 4) 4 >>= λ size. bytes_at b (p + 8) size >>= λ body. piece_of kind body) (number_not_io b p 4) (λ kind.
    not_io_then (number_at b (p + 4) 4) (λ size. bytes_at b (p + 8) size >>= λ body. piece_of kind body) (number_not_io b (p + 4) 4) (λ size.
    not_io_then (bytes_at b (p + 8) size) (λ body. piece_of kind body) (bytes_not_io b (p + 8) size) (λ body.
    kind_not_io (is_known kind) kind (record { kind = kind; body = body }))))

-- a refused subsection doesn't tell that a source failed
pub piece_error : (b : List ℕ) (p : ℕ) (e : Error) → piece_at b p ≡ Err e → e ≡ IoError → ⊥
piece_error b p e is io = subst (λ (d : Error). NotIo (let r : Result PieceBytes Error = Err d in r)) io (subst (λ (r : Result PieceBytes Error). NotIo r) is (piece_not_io b p))

module _ (kind : ℕ) (b : List ℕ) where
  -- none of the kind stands before a place
  pub record IsSearching (place : ℕ) : Type 0 where
    pub found : find (is_of kind) (pieces_from b 0).items ≡ find (is_of kind) (pieces_from b place).items
    pub told : (pieces_from b 0).fault ≡ (pieces_from b place).fault

  pub searching_begins : IsSearching 0
  searching_begins = record { found = refl; told = refl }

  module _ (old new : Cursor) (same : old.bytes ≡ b) (searching : IsSearching old.place) where
    module _ (x : Piece) (reads : Reads bytes_of_piece old new (Ok x) (piece_at old.bytes old.place) (piece_length old.place)) where
      followed : Follows (pieces_from b old.place) (bytes_of_piece x ∷ []) (pieces_from b new.place)
      unfolding pieces_from
      followed = turn_follows piece_at piece_length pieces_within bytes_of_piece b old new same x reads

      -- one of another kind
      pub searched : (x.kind ≡ kind → ⊥) → IsSearching new.place
      searched other = record {
        found = searching.found ∙ (ap (find (is_of kind)) followed.0 ∙ ap (λ (t : Bool). cond t (Some (bytes_of_piece x)) (find (is_of kind) (pieces_from b new.place).items)) (ne_eqb x.kind kind other));
        told = searching.told ∙ followed.1;
      }

      -- the first of the kind
      pub found : x.kind ≡ kind → first_part kind b ≡ Ok (Some x.body.now)
      unfolding first_part
      found is =
          let first : find (is_of kind) (pieces_from b 0).items ≡ Some (bytes_of_piece x) =
          searching.found ∙ (ap (find (is_of kind)) followed.0 ∙ ap (λ (t : Bool). cond t (Some (bytes_of_piece x)) (find (is_of kind) (pieces_from b new.place).items)) (eq-eqb x.kind kind is)) in
          ap (λ (o : Option PieceBytes). found_part o (pieces_from b 0).fault) first

    abbrev PiecesEnd : Option Error → Type 0
    PiecesEnd f = ((pieces_from b old.place).items ≡ []) × ((pieces_from b old.place).fault ≡ f)

    ended_with : (f : Option Error) → PiecesEnd f → first_part kind b ≡ found_part None f
    unfolding first_part
    ended_with f ends =
        ap (λ (o : Option PieceBytes). found_part o (pieces_from b 0).fault) (searching.found ∙ ap (find (is_of kind)) ends.0)
        ∙ ap (found_part None) (searching.told ∙ ends.1)

    -- a fault comes before there is one
    pub refused : (e : Error) → old.place < length b → Reads bytes_of_piece old new (Err e) (piece_at old.bytes old.place) (piece_length old.place) → first_part kind b ≡ Err e
    unfolding pieces_from
    refused e h reads = ended_with (Some e) (turn_fault piece_at piece_length pieces_within bytes_of_piece b old new same e h reads)

    -- there is none
    pub missing : length b ≤ old.place → first_part kind b ≡ Ok None
    unfolding pieces_from
    missing h = ended_with None (turn_end piece_at piece_length pieces_within bytes_of_piece b old new same h)
