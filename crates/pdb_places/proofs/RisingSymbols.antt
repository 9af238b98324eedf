-- The indices of symbols rise.
use Rattle.std.proofs.Common.{◌≡◌, ℕ, ◌+◌, ◌<◌, ◌≤◌, List, [], ◌∷◌, ◌++◌, refl, sym, ◌∙◌, append_assoc, arith}
use Rattle.pdb.specs.SymbolList.{Entry, symbols_from}
use Rattle.pdb_symbols.proofs.SymbolLaws.{spaced}

abbrev pub Above : ℕ → List Entry → Type 0
Above n [] = Unit {0}
Above n (t ∷ ts) = (n < t.index) × Above n ts

abbrev pub Rises : List Entry → Type 0
Rises [] = Unit {0}
Rises (s ∷ ss) = Above s.index ss × Rises ss

pub above_more : (m n : ℕ) (ss : List Entry) → m ≤ n → Above n ss → Above m ss
above_more m n [] l h = tt
above_more m n (s ∷ ss) l h = ((let a = h.0 in omega arith), above_more m n ss l h.1)

-- of a list of symbols from a place on
rises_on : (b : List ℕ) (p : ℕ) (before ss : List Entry) → (symbols_from b p).items ≡ before ++ ss → Rises ss
rises_on b p before [] e = tt
rises_on b p before (s ∷ []) e = (tt, tt)
rises_on b p before (s ∷ (t ∷ ss)) e =
    let apart = (spaced b p before ss s t e).apart in
    let next : s.index < t.index = omega arith in
    let rest = rises_on b p (before ++ s ∷ []) (t ∷ ss) (e ∙ sym (append_assoc before (s ∷ []) (t ∷ ss))) in
    ((next, above_more s.index t.index ss (omega arith) rest.0), rest)

pub symbols_rise : (b : List ℕ) (p : ℕ) → Rises (symbols_from b p).items
symbols_rise b p = rises_on b p [] (symbols_from b p).items refl
