-- A row is written, and what its list then shows.
use Rattle.std.proofs.Common.{◌≡◌, ℕ, zero, suc, ◌-◌, ◌<◌, ◌≤◌, Bool, true, false, cond, nat_lt, List, [], ◌∷◌, map, length, get_or, set, refl, sym, ap, subst, ◌∙◌, arith}
use Rattle.std.proofs.lemmas.Bool.{ltb-true, ltb-false}
use Rattle.std.proofs.lemmas.List.{length-map}
use Rattle.pdb_modules.specs.declared.rows.Row.{Row}
use Rattle.pdb_modules.specs.Lines.{line_info, distance, lesser}
use Rattle.pdb_base.specs.declared.index.PdbInternalSectionOffset.{PdbInternalSectionOffset}
use Rattle.pdb_modules.specs.declared.line_info.LineInfo.{LineInfo}
use Rattle.pdb_modules.specs.KeptRows.{row_place, row_line, whole, own, nearer, noted, noted_from}

-- the last row notes a mark at p, in the view f
pub set_last : {X : Type 0} (f : X → LineInfo) (p : PdbInternalSectionOffset) (rows : List X) (k : ℕ) (row d : X) → length rows ≡ suc k → f row ≡ nearer p (f (get_or rows k d)) → map f (set rows k row) ≡ noted p (map f rows)
set_last f p [] k row d e h = absurd (omega arith)
set_last f p (x ∷ []) zero row d e h = ap (λ (r : LineInfo). r ∷ []) h
set_last f p (x ∷ []) (suc k) row d e h = absurd (omega arith)
set_last f p (x ∷ (y ∷ ys)) zero row d e h = absurd (omega arith)
set_last f p (x ∷ (y ∷ ys)) (suc k) row d e h = ap (λ (rs : List LineInfo). f x ∷ rs) (set_last f p (y ∷ ys) k row d (omega arith) h)

-- and none of the first n
pub set_last_from : {X : Type 0} (f : X → LineInfo) (p : PdbInternalSectionOffset) (n : ℕ) (rows : List X) (k : ℕ) (row d : X) → n ≤ k → length rows ≡ suc k → f row ≡ nearer p (f (get_or rows k d)) → map f (set rows k row) ≡ noted_from n p (map f rows)
set_last_from f p zero rows k row d l e h = set_last f p rows k row d e h
set_last_from f p (suc n) [] k row d l e h = absurd (omega arith)
set_last_from f p (suc n) (x ∷ xs) zero row d l e h = absurd (omega arith)
set_last_from f p (suc n) (x ∷ xs) (suc k) row d l e h = ap (λ (rs : List LineInfo). f x ∷ rs) (set_last_from f p n xs k row d (omega arith) (omega arith) h)

-- a row that shows the same
pub set_same : {X : Type 0} (f : X → LineInfo) (rows : List X) (k : ℕ) (row d : X) → f row ≡ f (get_or rows k d) → map f (set rows k row) ≡ map f rows
set_same f [] k row d h = refl
set_same f (x ∷ xs) zero row d h = ap (λ (r : LineInfo). r ∷ map f xs) h
set_same f (x ∷ xs) (suc k) row d h = ap (λ (rs : List LineInfo). f x ∷ rs) (set_same f xs k row d h)

-- no row is behind the first n
pub none_behind : (p : PdbInternalSectionOffset) (n : ℕ) (rs : List LineInfo) → length rs ≡ n → noted_from n p rs ≡ rs
none_behind p zero [] e = refl
none_behind p zero (r ∷ rs) e = absurd (omega arith)
none_behind p (suc n) [] e = absurd (omega arith)
none_behind p (suc n) (r ∷ rs) e = ap (λ (rs : List LineInfo). r ∷ rs) (none_behind p n rs (omega arith))

-- ---- a mark is noted

-- what a row says that notes a mark
pub record Notes (p : PdbInternalSectionOffset) (is_own : Bool) (row old : Row) : Type 0 where
  pub place : row_place row ≡ row_place old
  pub line : row_line row ≡ row_line old
  pub reach : row.length ≡ lesser old.length (distance (row_place old) p)
  pub own_reach : row.own_length ≡ cond is_own (lesser old.own_length (distance (row_place old) p)) old.own_length

pub note_whole : (p : PdbInternalSectionOffset) (is_own : Bool) (rows : List Row) (k n : ℕ) (row old : Row) → 0 < n → n ≡ length rows → k ≡ n - 1 → Notes p is_own row old → old ≡ get_or rows k old → map whole (set rows k row) ≡ noted p (map whole rows)
note_whole p is_own rows k n row old h l e is was =
    let shows : whole row ≡ nearer p (whole old) = λ i. line_info (is.place i) (is.line i) (is.reach i) in
    set_last whole p rows k row old (omega arith) (shows ∙ ap (λ (r : Row). nearer p (whole r)) was)

own_at : (p : PdbInternalSectionOffset) (from : ℕ) (rows : List Row) (k : ℕ) (row old : Row) (b : Bool) → nat_lt from (suc k) ≡ b → from ≤ suc k → length rows ≡ suc k → Notes p b row old → old ≡ get_or rows k old → map own (set rows k row) ≡ noted_from from p (map own rows)
own_at p from rows k row old true t f l is was =
    let below : from < suc k = ltb-true from (suc k) t in
    let shows : own row ≡ nearer p (own old) = λ i. line_info (is.place i) (is.line i) (is.own_reach i) in
    set_last_from own p from rows k row old (omega arith) l (shows ∙ ap (λ (r : Row). nearer p (own r)) was)
own_at p from rows k row old false t f l is was =
    let above : suc k ≤ from = ltb-false from (suc k) t in
    let shows : own row ≡ own old = λ i. line_info (is.place i) (is.line i) (is.own_reach i) in
    set_same own rows k row old (shows ∙ ap own was) ∙ sym (none_behind p from (map own rows) (omega (arith, length-map rows own)))

pub note_own : (p : PdbInternalSectionOffset) (from : ℕ) (rows : List Row) (k n : ℕ) (row old : Row) → 0 < n → n ≡ length rows → k ≡ n - 1 → from ≤ n → Notes p (nat_lt from n) row old → old ≡ get_or rows k old → map own (set rows k row) ≡ noted_from from p (map own rows)
note_own p from rows k n row old h l e f is was =
    let n_is : n ≡ suc k = omega arith in
    own_at p from rows k row old (nat_lt from (suc k)) refl (omega arith) (omega arith) (subst (λ (m : ℕ). Notes p (nat_lt from m) row old) n_is is) was
