-- The subsections as a line program reads them, and the turns of the loop over them.
use Rattle.std.proofs.Common.{◌≡◌, ℕ, ◌<◌, ◌≤◌, Bool, true, false, cond, List, [], ◌∷◌, ◌++◌, map, length, Option, Some, None, Ok, Err, Result, refl, sym, ap, subst, ◌∙◌, arith, append_assoc}
use Rattle.std.specs.List.{filter_map, cons_option}
use Rattle.std.proofs.lemmas.Bool.{eq-eqb, ne_eqb}
use Rattle.std.proofs.lemmas.List.{append-nil, length-append, length-map}
use Rattle.pdb_base.specs.declared.error.Error.{Error}
use Rattle.pdb_base.specs.declared.error.Error.TheVariants.{UnexpectedEof}
use Rattle.pdb_base.specs.Cursor.{Cursor, Reads}
use Rattle.pdb_base.specs.Left.{Follows}
use Rattle.pdb_base.specs.Refusal.{Fails, ◌>>=◌}
use Rattle.pdb_base.proofs.Places.{bind_ok}
use Rattle.pdb_base.proofs.Readings.{ReadsInside}
use Rattle.pdb_modules.specs.declared.line_subsection.LineSubsection.{LineSubsection}
use Rattle.pdb_modules.specs.declared.subsections.Piece.{Piece}
use Rattle.pdb_modules.specs.Lines.{Subsection}
use Rattle.pdb_modules.specs.KeptRows.{subsection_of}
use Rattle.pdb_modules.specs.LineOrder.{ordered}
use Rattle.pdb_modules.specs.Subsections.{PieceBytes, piece_at, piece_length, all_or_fault}
use Rattle.pdb_modules.specs.SubsectionViews.{bytes_of_piece}
use Rattle.pdb_modules.specs.ProgramParts.{is_short, whole_piece, whole_piece_at, whole_pieces_from, lines_subsection, as_lines, later_checksums, last_checksums, lines_listed, parts_among, PartsOf, parts_of}
use Rattle.pdb_modules.proofs.Refusals.{NotIo, fails_with}
use Rattle.pdb_modules.proofs.WholePieces.{whole_not_io, checksums_from, IsKeeping, keeping_begins, followed, kept, renewed, faulty, end_ends, whole_to_end, all_kept}

module _ (b : List ℕ) where
  abbrev lines_from : ℕ → List Subsection
  lines_from place = filter_map as_lines (whole_pieces_from b place).items

  -- the subsections of lines before a place are listed, and the last one of checksums before it is kept
  pub record IsCollecting (place : ℕ) (lines : List LineSubsection) (checksums : List ℕ) : Type 0 where
    pub joined : map subsection_of lines ++ lines_from place ≡ lines_from 0
    pub keeping : IsKeeping b place checksums

  pub collecting_begins : IsCollecting 0 [] []
  collecting_begins = record { joined = refl; keeping = keeping_begins b }

  module _ (old new : Cursor) (same : old.bytes ≡ b) (lines : List LineSubsection) (checksums : List ℕ) (collecting : IsCollecting old.place lines checksums) where
    module _ (x : Piece) (reads : Reads bytes_of_piece old new (Ok x) (whole_piece_at old.bytes old.place) (piece_length old.place)) where
      first_is : Follows (whole_pieces_from b old.place) (bytes_of_piece x ∷ []) (whole_pieces_from b new.place)
      first_is = followed b old new same checksums collecting.keeping x reads

      skipped : (x.kind ≡ 0xf2 → ⊥) → lines_from old.place ≡ lines_from new.place
      skipped other = ap (filter_map as_lines) first_is.0 ∙ ap (λ (t : Bool). cons_option (cond t (Some (lines_subsection x.body.now)) None) (lines_from new.place)) (ne_eqb x.kind 0xf2 other)

      joined_on : (x.kind ≡ 0xf2 → ⊥) → map subsection_of lines ++ lines_from new.place ≡ lines_from 0
      joined_on other = ap (λ (ss : List Subsection). map subsection_of lines ++ ss) (sym (skipped other)) ∙ collecting.joined

      -- one of another kind
      pub passed : (x.kind ≡ 0xf2 → ⊥) → (x.kind ≡ 0xf4 → ⊥) → IsCollecting new.place lines checksums
      passed not_lines not_checksums = record { joined = joined_on not_lines; keeping = kept b old new same checksums collecting.keeping x reads not_checksums }

      -- one of checksums
      pub replaced : (x.kind ≡ 0xf2 → ⊥) → x.kind ≡ 0xf4 → IsCollecting new.place lines x.body.now
      replaced not_lines is = record { joined = joined_on not_lines; keeping = renewed b old new same checksums collecting.keeping x reads is }

      -- one of lines
      pub taken : x.kind ≡ 0xf2 → (next : List LineSubsection) → map subsection_of next ≡ map subsection_of lines ++ lines_subsection x.body.now ∷ [] → IsCollecting new.place next checksums
      taken is next pushed =
          let first : lines_from old.place ≡ lines_subsection x.body.now ∷ lines_from new.place =
          ap (filter_map as_lines) first_is.0 ∙ ap (λ (t : Bool). cons_option (cond t (Some (lines_subsection x.body.now)) None) (lines_from new.place)) (eq-eqb x.kind 0xf2 is) in
          record {
            joined =
                ap (λ (ss : List Subsection). ss ++ lines_from new.place) pushed
                ∙ (append_assoc (map subsection_of lines) (lines_subsection x.body.now ∷ []) (lines_from new.place)
                ∙ (ap (λ (ss : List Subsection). map subsection_of lines ++ ss) (sym first) ∙ collecting.joined));
            keeping = kept b old new same checksums collecting.keeping x reads (λ q. omega (arith, is, q));
          }

    -- a fault refuses the program
    refused : (e : Error) → old.place < length b → Reads bytes_of_piece old new (Err e) (whole_piece_at old.bytes old.place) (piece_length old.place) → parts_of b ≡ Err e
    unfolding parts_of
    refused e h reads =
        ap (λ (f : Option Error). all_or_fault (whole_pieces_from b 0).items f >>= (λ ps. Ok (parts_among ps))) (faulty b old new same checksums collecting.keeping e h reads)

    pub refused_with : (e : Error) → old.place < length b → Reads bytes_of_piece old new (Err e) (whole_piece_at old.bytes old.place) (piece_length old.place) → Fails ⊥ e (parts_of b)
    refused_with e h reads =
        fails_with e (parts_of b) (subst (λ (r : Result PieceBytes Error). NotIo r) reads.0 (whole_not_io old.bytes old.place)) (refused e h reads)

    no_more : length b ≤ old.place → (whole_pieces_from b old.place).items ≡ []
    no_more h = (end_ends b old new same checksums collecting.keeping h).0

    -- at the end all are listed
    pub collected : length b ≤ old.place → parts_of b ≡ Ok (record { subsections = ordered (map subsection_of lines); checksums = checksums })
    unfolding parts_of
    collected h =
        let all : map subsection_of lines ≡ lines_from 0 = sym (append-nil (map subsection_of lines)) ∙ (ap (λ (ps : List PieceBytes). map subsection_of lines ++ filter_map as_lines ps) (sym (no_more h)) ∙ collecting.joined) in
        ap (λ (f : Option Error). all_or_fault (whole_pieces_from b 0).items f >>= (λ ps. Ok (parts_among ps))) (whole_to_end b old new same checksums collecting.keeping h)
        ∙ (ap (λ (ss : List Subsection). Ok (record { subsections = ordered ss; checksums = checksums_from b [] 0 })) (sym all)
        ∙ ap (λ (c : List ℕ). Ok (record { subsections = ordered (map subsection_of lines); checksums = c })) (sym (all_kept b old new same checksums collecting.keeping h)))

    -- a subsection of lines is listed
    pub some_listed : (x : Piece) → Reads bytes_of_piece old new (Ok x) (whole_piece_at old.bytes old.place) (piece_length old.place) → x.kind ≡ 0xf2 → lines_listed b ≡ [] → ⊥
    some_listed x reads is none =
        let first : lines_from old.place ≡ lines_subsection x.body.now ∷ lines_from new.place =
        ap (filter_map as_lines) (first_is x reads).0 ∙ ap (λ (t : Bool). cons_option (cond t (Some (lines_subsection x.body.now)) None) (lines_from new.place)) (eq-eqb x.kind 0xf2 is) in
        let all = ap length (ap (λ (ss : List Subsection). map subsection_of lines ++ ss) (sym first) ∙ (collecting.joined ∙ none)) in
        let sum = length-append (map subsection_of lines) (lines_subsection x.body.now ∷ lines_from new.place) in
        absurd (omega (arith, all, sum))

    -- and where none is, none was collected at the end
    pub none_collected : length b ≤ old.place → lines_listed b ≡ [] → length lines ≡ 0
    none_collected h none =
        let all = ap length (collecting.joined ∙ none) in
        let sum = length-append (map subsection_of lines) (lines_from old.place) in
        omega (arith, all, sum, length-map lines subsection_of)

taken_whole : (ps : List PieceBytes) (f : Option Error) (qs : List PieceBytes) → all_or_fault ps f ≡ Ok qs → qs ≡ ps
taken_whole ps None qs e = cc
taken_whole ps (Some d) qs e = absurd cc

-- without a subsection of lines there is none in order
pub none_listed : (b : List ℕ) (ls : List LineSubsection) (checksums : List ℕ) → parts_of b ≡ Ok (record { subsections = map subsection_of ls; checksums = checksums }) → lines_listed b ≡ [] → length ls ≡ 0
unfolding parts_of ordered
none_listed b ls checksums is none =
    let (ps, e1, rest) = bind_ok (all_or_fault (whole_pieces_from b 0).items (whole_pieces_from b 0).fault) (λ ps. Ok (parts_among ps)) (record { subsections = map subsection_of ls; checksums = checksums }) is in
    let same = taken_whole (whole_pieces_from b 0).items (whole_pieces_from b 0).fault ps e1 in
    let empty : filter_map as_lines ps ≡ [] = rw same none in
    let kept : parts_among ps ≡ record { subsections = map subsection_of ls; checksums = checksums } = cc in
    let listed : ordered (filter_map as_lines ps) ≡ map subsection_of ls = ap (λ (ps : PartsOf). ps.subsections) kept in
    let ended : map subsection_of ls ≡ [] = sym listed ∙ (rw empty refl) in
    omega (arith, ap length ended, length-map ls subsection_of)
