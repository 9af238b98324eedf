-- Contributions as pieces of code, each with its number: what is found among them, and that they don't overlap.
use Rattle.std.proofs.Common.{◌≡◌, ℕ, zero, suc, ◌+◌, ◌^◌, ◌<◌, ◌≤◌, ◌⊎◌, ◌==◌, inl, inr, Bool, true, false, cond, List, [], ◌∷◌, length, get_or, map, Option, Some, None, refl, sym, ap, ◌∙◌, zero-add, arith}
use Rattle.std.specs.Prelude.{find}
use Rattle.std.specs.Option.{option_map}
use Rattle.std.proofs.lemmas.Bool.{ne_eqb}
use Rattle.pdb.specs.PdbInternalSectionOffset.{PdbInternalSectionOffset}
use Rattle.pdb.specs.DBISectionContribution.{DBISectionContribution}
use Rattle.pdb_places.specs.declared.range.CodeRange.{CodeRange}
use Rattle.pdb_places.specs.RangeOrder.{InOrder}
use Rattle.pdb.specs.LineCover.{bytes_cover}
use Rattle.pdb_places.specs.Pieces.{Code, code_covers, index_of, SameCode, ApartCode, AreCodesApart, range_parts, code_parts, AreRangesOf}
use Rattle.pdb_places.specs.Covering.{covers}
use Rattle.pdb_places.specs.ModulePlaces.{contributes, none_listed, reaches_by, module_of, module_among, SameBytes, NoCommonByte, AreContributionsApart}
use Rattle.pdb_places.specs.ModuleTable.{piece, pieces_from, IsTableOf}
use Rattle.pdb_places.proofs.Pieces.{looks_halved}

-- ---- one more contribution

abbrev Parts : Type 0
Parts = ℕ × (PdbInternalSectionOffset × ℕ)

-- ---- what is found

abbrev pub number_found : PdbInternalSectionOffset → ℕ → List DBISectionContribution → Option ℕ
number_found q n cs = option_map index_of (find (code_covers q) (pieces_from n cs))

pub none_among : (q : PdbInternalSectionOffset) (n : ℕ) (cs : List DBISectionContribution) → number_found q n cs ≡ None → module_among q cs ≡ None
none_among q n [] e = refl
none_among q n (c ∷ cs) e = by_head (contributes q c) e (none_among q (n + 1) cs)
  where
    by_head : (b : Bool) → option_map index_of (cond b (Some (piece n c)) (find (code_covers q) (pieces_from (n + 1) cs))) ≡ None → (number_found q (n + 1) cs ≡ None → module_among q cs ≡ None)
        → option_map module_of (cond b (Some c) (find (contributes q) cs)) ≡ None
    by_head true f rest = absurd cc
    by_head false f rest = rest f

-- number k is that of the contribution whose module is found
pub record IsNumber (q : PdbInternalSectionOffset) (n : ℕ) (cs : List DBISectionContribution) (k : ℕ) : Type 0 where
  pub place : ℕ
  pub number : k ≡ n + place
  pub there : place < length cs
  pub finds : module_among q cs ≡ Some (get_or (map module_of cs) place 0)

pub some_among : (q : PdbInternalSectionOffset) (n : ℕ) (cs : List DBISectionContribution) (k : ℕ) → number_found q n cs ≡ Some k → IsNumber q n cs k
some_among q n [] k e = absurd cc
some_among q n (c ∷ cs) k e = by_head (contributes q c) refl e (some_among q (n + 1) cs k)
  where
    by_head : (b : Bool) → contributes q c ≡ b → option_map index_of (cond b (Some (piece n c)) (find (code_covers q) (pieces_from (n + 1) cs))) ≡ Some k
        → (number_found q (n + 1) cs ≡ Some k → IsNumber q (n + 1) cs k) → IsNumber q n (c ∷ cs) k
    by_head true is f rest =
        let same : n ≡ k = cc in
        record {
          place = 0;
          number = omega (arith, same);
          there = omega arith;
          finds = ap (λ (b : Bool). option_map module_of (cond b (Some c) (find (contributes q) cs))) is;
        }
    by_head false is f rest =
        let found = rest f in
        record {
          place = suc found.place;
          number = omega (arith, found.number);
          there = omega (arith, found.there);
          finds = ap (λ (b : Bool). option_map module_of (cond b (Some c) (find (contributes q) cs))) is ∙ found.finds;
        }

-- ---- whether the contribution that is found has another place

abbrev parts_cover : PdbInternalSectionOffset → Parts → Bool
parts_cover q p = bytes_cover q p.1.0 p.1.1

-- the range of this number covers the place where the contribution has it
pub record IsReached (p q : PdbInternalSectionOffset) (n : ℕ) (cs : List DBISectionContribution) (rs : List CodeRange) (k : ℕ) : Type 0 where
  pub place : ℕ
  pub number : k ≡ n + place
  pub there : place < length rs
  pub is : (none : Bool) (d : CodeRange) → covers q (get_or rs place d) ≡ reaches_by none q (find (contributes p) cs)

pub reached : (p q : PdbInternalSectionOffset) (n : ℕ) (cs : List DBISectionContribution) (rs : List CodeRange) (k : ℕ) → AreRangesOf (pieces_from n cs) rs → number_found p n cs ≡ Some k → IsReached p q n cs rs k
reached p q n [] rs k a e = absurd cc
reached p q n (c ∷ cs) [] k a e = absurd cc
reached p q n (c ∷ cs) (r ∷ rs) k a e =
    let head : range_parts r ≡ code_parts (piece n c) = cc in
    let tail : AreRangesOf (pieces_from (n + 1) cs) rs = cc in
    by_head (contributes p c) refl e head (reached p q (n + 1) cs rs k tail)
  where
    by_head : (b : Bool) → contributes p c ≡ b → option_map index_of (cond b (Some (piece n c)) (find (code_covers p) (pieces_from (n + 1) cs))) ≡ Some k → range_parts r ≡ code_parts (piece n c)
        → (number_found p (n + 1) cs ≡ Some k → IsReached p q (n + 1) cs rs k) → IsReached p q n (c ∷ cs) (r ∷ rs) k
    by_head true is f head rest =
        let same : n ≡ k = cc in
        record {
          place = 0;
          number = omega (arith, same);
          there = omega arith;
          is = λ none d. ap (parts_cover q) head ∙ sym (ap (λ (b : Bool). reaches_by none q (cond b (Some c) (find (contributes p) cs))) is);
        }
    by_head false is f head rest =
        let found = rest f in
        record {
          place = suc found.place;
          number = omega (arith, found.number);
          there = omega (arith, found.there);
          is = λ none d. found.is none d ∙ sym (ap (λ (b : Bool). reaches_by none q (cond b (Some c) (find (contributes p) cs))) is);
        }

pub not_reached : (p q : PdbInternalSectionOffset) (n : ℕ) (none : Bool) (cs : List DBISectionContribution) → number_found p n cs ≡ None → reaches_by none q (find (contributes p) cs) ≡ none
not_reached p q n none [] e = refl
not_reached p q n none (c ∷ cs) e = by_head (contributes p c) refl e (not_reached p q (n + 1) none cs)
  where
    by_head : (b : Bool) → contributes p c ≡ b → option_map index_of (cond b (Some (piece n c)) (find (code_covers p) (pieces_from (n + 1) cs))) ≡ None
        → (number_found p (n + 1) cs ≡ None → reaches_by none q (find (contributes p) cs) ≡ none) → reaches_by none q (find (contributes p) (c ∷ cs)) ≡ none
    by_head true is f rest = absurd cc
    by_head false is f rest = ap (λ (b : Bool). reaches_by none q (cond b (Some c) (find (contributes p) cs))) is ∙ rest f

-- as many ranges as contributions
pub none_kept : (n : ℕ) (cs : List DBISectionContribution) (rs : List CodeRange) → AreRangesOf (pieces_from n cs) rs → none_listed cs ≡ (length rs == 0)
none_kept n [] [] a = refl
none_kept n [] (r ∷ rs) a = absurd cc
none_kept n (c ∷ cs) [] a = absurd cc
none_kept n (c ∷ cs) (r ∷ rs) a = sym (ne_eqb (suc (length rs)) 0 (λ same. absurd (omega arith)))

-- ---- pieces that don't overlap

pub pieces_count : (n : ℕ) (cs : List DBISectionContribution) → length (pieces_from n cs) ≡ length cs
pieces_count n [] = refl
pieces_count n (c ∷ cs) = ap suc (pieces_count (n + 1) cs)

a_contribution : Code → DBISectionContribution
a_contribution d = record { offset = d.place; size = d.length; characteristics = record { 0 = 0 }; «module» = 0; data_crc = 0; reloc_crc = 0 }

piece_at : (n : ℕ) (cs : List DBISectionContribution) (j : ℕ) (d : Code) → j < length cs → get_or (pieces_from n cs) j d ≡ piece (n + j) (get_or cs j (a_contribution d))
piece_at n [] j d l = absurd (omega (arith, l))
piece_at n (c ∷ cs) zero d l = let same : n ≡ n + 0 = omega arith in ap (λ (k : ℕ). piece k c) same
piece_at n (c ∷ cs) (suc j) d l =
    let same : n + 1 + j ≡ n + suc j = omega arith in
    piece_at (n + 1) cs j d (omega (arith, l)) ∙ ap (λ (k : ℕ). piece k (get_or cs j (a_contribution d))) same

either_piece : (i j : ℕ) (c d : DBISectionContribution) (x y : Code) → x ≡ piece i c → y ≡ piece j d → SameBytes c d ⊎ NoCommonByte c d → SameCode x y ⊎ ApartCode x y
either_piece i j c d x y e f (inl same) = rw (e, f) (inl same)
either_piece i j c d x y e f (inr apart) = rw (e, f) (inr apart)

pub pieces_apart : (cs : List DBISectionContribution) → AreContributionsApart cs → AreCodesApart (pieces_from 0 cs)
pieces_apart cs apart j d l k f m =
    let n = pieces_count 0 cs in
    either_piece j k (get_or cs j (a_contribution d)) (get_or cs k (a_contribution f)) (get_or (pieces_from 0 cs) j d) (get_or (pieces_from 0 cs) k f)
    (piece_at 0 cs j d (omega (arith, l, n)) ∙ ap (λ (i : ℕ). piece i (get_or cs j (a_contribution d))) (zero-add j))
    (piece_at 0 cs k f (omega (arith, m, n)) ∙ ap (λ (i : ℕ). piece i (get_or cs k (a_contribution f))) (zero-add k))
    (apart j (a_contribution d) (omega (arith, l, n)) k (a_contribution f) (omega (arith, m, n)))

-- ---- the looks

pub table_halves : (cs : List DBISectionContribution) (rs : List CodeRange) (ms : List ℕ) (old new : ℕ) → IsTableOf cs rs ms → (InOrder rs → (digits : ℕ) → length rs < 2 ^ digits → new ≤ old + digits) → AreContributionsApart cs → (digits : ℕ) → length cs < 2 ^ digits → new ≤ old + digits
table_halves cs rs ms old new table looks apart digits l =
    looks_halved (pieces_from 0 cs) (pieces_from 0 cs) rs old new table.ranges refl looks (pieces_apart cs apart) digits (rw (pieces_count 0 cs) l)

pub table_few : (cs : List DBISectionContribution) (rs : List CodeRange) (ms : List ℕ) → IsTableOf cs rs ms → length rs ≤ length cs
table_few cs rs ms table = let n = pieces_count 0 cs in omega (arith, table.ranges.few, n)
