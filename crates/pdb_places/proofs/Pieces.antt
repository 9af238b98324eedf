-- Ranges of pieces of code find the index of the first piece that covers a place.
use Rattle.std.proofs.Common.{◌≡◌, ℕ, Bool, true, false, cond, List, [], ◌∷◌, ◌++◌, map, Option, Some, None, refl, sym, ap, subst, ◌∙◌, append_assoc, ◌⊎◌, inl, inr, ◌+◌, ◌^◌, ◌<◌, ◌≤◌, length, get_or, arith}
use Rattle.std.specs.Prelude.{find, filter_map}
use Rattle.std.specs.List.{cons_option}
use Rattle.std.specs.Option.{option_map, option_to_list}
use Rattle.pdb.specs.PdbInternalSectionOffset.{PdbInternalSectionOffset}
use Rattle.pdb.specs.SymbolList.{Entry}
use Rattle.pdb_places.specs.declared.range.CodeRange.{CodeRange}
use Rattle.pdb_places.specs.RangeOrder.{InOrder, Same}
use Rattle.pdb_places.specs.Covering.{first_covering, Apart, AreApart}
use Rattle.pdb_places.proofs.Coverings.{covered_is}
use Rattle.std.proofs.lemmas.List.{get_or-map, length-map}
use Rattle.pdb.specs.LineCover.{bytes_cover}
use Rattle.pdb_places.specs.Pieces.{Code, begins_at, code_covers, index_of, SameCode, ApartCode, AreCodesApart, range_parts, range_start, code_parts, start_parts, AreRangesOf, AreStartsOf, IsKeptOf}

-- a test of the parts
abbrev parts_cover : PdbInternalSectionOffset → ℕ × (PdbInternalSectionOffset × ℕ) → Bool
parts_cover q p = bytes_cover q p.1.0 p.1.1

found_by : (b : Bool) (c : Code) (o : Option ℕ) (f : Option Code) → o ≡ option_map index_of f → cond b (Some c.index) o ≡ option_map index_of (cond b (Some c) f)
found_by true c o f e = refl
found_by false c o f e = e

pub ranges_find : (q : PdbInternalSectionOffset) (cs : List Code) (rs : List CodeRange) → AreRangesOf cs rs → first_covering q rs ≡ option_map index_of (find (code_covers q) cs)
ranges_find q [] [] e = refl
ranges_find q [] (r ∷ rs) e = absurd cc
ranges_find q (c ∷ cs) [] e = absurd cc
ranges_find q (c ∷ cs) (r ∷ rs) e =
    let head : range_parts r ≡ code_parts c = cc in
    let tail : AreRangesOf cs rs = cc in
    ap (λ (p : ℕ × (PdbInternalSectionOffset × ℕ)). cond (parts_cover q p) (Some p.0) (first_covering q rs)) head
    ∙ found_by (code_covers q c) c (first_covering q rs) (find (code_covers q) cs) (ranges_find q cs rs tail)

-- ---- one more symbol

more_by : (o : Option Code) (cs : List Code) → map code_parts (cons_option o cs) ≡ map code_parts (option_to_list o) ++ map code_parts cs
more_by None cs = refl
more_by (Some c) cs = refl

pub one_more : (of : Entry → Option Code) (s : Entry) (old new : List Entry) (rs ss : List CodeRange) (all : List (ℕ × (PdbInternalSectionOffset × ℕ)))
    → old ≡ s ∷ new → map range_parts ss ≡ map range_parts rs ++ map code_parts (option_to_list (of s))
    → map range_parts rs ++ map code_parts (filter_map of old) ≡ all
    → map range_parts ss ++ map code_parts (filter_map of new) ≡ all
one_more of s old new rs ss all follows added before =
    ap (λ l. l ++ map code_parts (filter_map of new)) added
    ∙ (append_assoc (map range_parts rs) (map code_parts (option_to_list (of s))) (map code_parts (filter_map of new))
    ∙ (ap (λ l. map range_parts rs ++ l) (sym (more_by (of s) (filter_map of new)))
    ∙ (ap (λ (l : List Entry). map range_parts rs ++ map code_parts (filter_map of l)) (sym follows)
    ∙ before)))

-- ---- ranges of pieces that don't overlap don't overlap

a_code : CodeRange → Code
a_code r = record { index = r.payload; place = r.place; length = r.length; end = 0 }

either_of : (r s : CodeRange) (c d : Code) → range_parts r ≡ code_parts c → range_parts s ≡ code_parts d → SameCode c d ⊎ ApartCode c d → Same r s ⊎ Apart r s
either_of r s c d e f (inl same) =
    let section : r.place.section ≡ c.place.section = ap (λ (p : ℕ × (PdbInternalSectionOffset × ℕ)). p.1.0.section) e in
    let section' : s.place.section ≡ d.place.section = ap (λ (p : ℕ × (PdbInternalSectionOffset × ℕ)). p.1.0.section) f in
    let offset : r.place.offset ≡ c.place.offset = ap (λ (p : ℕ × (PdbInternalSectionOffset × ℕ)). p.1.0.offset) e in
    let offset' : s.place.offset ≡ d.place.offset = ap (λ (p : ℕ × (PdbInternalSectionOffset × ℕ)). p.1.0.offset) f in
    let size : r.length ≡ c.length = ap (λ (p : ℕ × (PdbInternalSectionOffset × ℕ)). p.1.1) e in
    let size' : s.length ≡ d.length = ap (λ (p : ℕ × (PdbInternalSectionOffset × ℕ)). p.1.1) f in
    inl (section ∙ (same.0 ∙ sym section'), offset ∙ (same.1 ∙ sym offset'), size ∙ (same.2 ∙ sym size'))
either_of r s c d e f (inr apart) =
    inr (λ q h k. apart q (ap (parts_cover q) (sym e) ∙ covered_is q r h) (ap (parts_cover q) (sym f) ∙ covered_is q s k))

pub as_many : (cs : List Code) (rs : List CodeRange) → AreRangesOf cs rs → length rs ≡ length cs
as_many cs rs e = sym (length-map rs range_parts) ∙ (ap (λ (l : List (ℕ × (PdbInternalSectionOffset × ℕ))). length l) e ∙ length-map cs code_parts)

parts_at : (cs : List Code) (rs : List CodeRange) → AreRangesOf cs rs → (j : ℕ) (d : CodeRange) → j < length rs → range_parts (get_or rs j d) ≡ code_parts (get_or cs j (a_code d))
parts_at cs rs e j d l =
    let n = as_many cs rs e in
    sym (get_or-map range_parts rs j d (range_parts d) l)
    ∙ (ap (λ (l : List (ℕ × (PdbInternalSectionOffset × ℕ))). get_or l j (range_parts d)) e
    ∙ get_or-map code_parts cs j (a_code d) (range_parts d) (omega arith))

pub rows_apart : (cs : List Code) (rs : List CodeRange) → AreRangesOf cs rs → AreCodesApart cs → AreApart rs
rows_apart cs rs e apart j d l k f m =
    let n = as_many cs rs e in
    either_of (get_or rs j d) (get_or rs k f) (get_or cs j (a_code d)) (get_or cs k (a_code f)) (parts_at cs rs e j d l) (parts_at cs rs e k f m)
    (apart j (a_code d) (omega arith) k (a_code f) (omega arith))

-- ---- what is kept of them

pub kept_of : (cs : List Code) (rows items rs : List CodeRange) → AreRangesOf cs items → rows ≡ items
    → ((q : PdbInternalSectionOffset) → first_covering q rs ≡ first_covering q rows) → (AreApart rows → InOrder rs) → length rs ≤ length rows → IsKeptOf cs rs
kept_of cs rows items rs e same finds order few =
    let n = as_many cs items e in
    let m : length rows ≡ length items = ap (λ (l : List CodeRange). length l) same in
    record {
      finds = λ q. finds q ∙ (ap (first_covering q) same ∙ ranges_find q cs items e);
      apart = λ h. order (subst AreApart (sym same) (rows_apart cs items e h));
      few = omega arith;
    }

pub looks_halved : (cs ds : List Code) (rs : List CodeRange) (old new : ℕ) → IsKeptOf cs rs → cs ≡ ds → (InOrder rs → (digits : ℕ) → length rs < 2 ^ digits → new ≤ old + digits) → AreCodesApart ds → (digits : ℕ) → length ds < 2 ^ digits → new ≤ old + digits
looks_halved cs ds rs old new kept same looks apart digits l =
    let n : length cs ≡ length ds = ap (λ (l : List Code). length l) same in
    let few = kept.few in
    looks (kept.apart (subst AreCodesApart (sym same) apart)) digits (omega arith)

-- ---- where pieces begin

found_start : (b : Bool) (c : Code) (o : Option ℕ) (f : Option Code) → o ≡ option_map index_of f → cond b (Some c.index) o ≡ option_map index_of (cond b (Some c) f)
found_start true c o f e = refl
found_start false c o f e = e

starts_find : (q : PdbInternalSectionOffset) (cs : List Code) (rs : List CodeRange) → map range_parts rs ≡ map start_parts cs → first_covering q rs ≡ option_map index_of (find (begins_at q) cs)
starts_find q [] [] e = refl
starts_find q [] (r ∷ rs) e = absurd cc
starts_find q (c ∷ cs) [] e = absurd cc
starts_find q (c ∷ cs) (r ∷ rs) e =
    let head : range_parts r ≡ start_parts c = cc in
    let tail : map range_parts rs ≡ map start_parts cs = cc in
    ap (λ (p : ℕ × (PdbInternalSectionOffset × ℕ)). cond (parts_cover q p) (Some p.0) (first_covering q rs)) head
    ∙ found_start (begins_at q c) c (first_covering q rs) (find (begins_at q) cs) (starts_find q cs rs tail)

listed_starts : (cs : List Code) (rs : List CodeRange) → AreRangesOf cs rs → map range_start rs ≡ map start_parts cs
listed_starts [] [] e = refl
listed_starts [] (r ∷ rs) e = absurd cc
listed_starts (c ∷ cs) [] e = absurd cc
listed_starts (c ∷ cs) (r ∷ rs) e =
    let head : range_parts r ≡ code_parts c = cc in
    let tail : AreRangesOf cs rs = cc in
    let first : range_start r ≡ start_parts c = ap (λ (p : ℕ × (PdbInternalSectionOffset × ℕ)). (p.0, (p.1.0, 1))) head in
    ap (λ (p : ℕ × (PdbInternalSectionOffset × ℕ)). p ∷ map range_start rs) first ∙ ap (λ (l : List (ℕ × (PdbInternalSectionOffset × ℕ))). start_parts c ∷ l) (listed_starts cs rs tail)

-- rows of the bytes where listed pieces begin find which piece begins at a place
pub starts_kept : (cs : List Code) (listed rows kept : List CodeRange) → AreRangesOf cs listed → map range_parts rows ≡ map range_start listed
    → ((q : PdbInternalSectionOffset) → first_covering q kept ≡ first_covering q rows) → AreStartsOf cs kept
starts_kept cs listed rows kept are made same = λ q. same q ∙ starts_find q cs rows (made ∙ listed_starts cs listed are)
