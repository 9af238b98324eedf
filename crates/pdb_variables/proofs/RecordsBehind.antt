-- The records behind that of a function are those that an iterator has left which has given it.
use Rattle.std.proofs.Common.{◌≡◌, ℕ, ◌<◌, ◌++◌, Bool, cond, List, [], ◌∷◌, Ok, sym, ap, subst, ◌∙◌, arith}
use Rattle.std.proofs.lemmas.Bool.{eq-eqb, ne_eqb}
use Rattle.pdb.specs.Forms.{kind_at}
use Rattle.pdb.specs.Left.{Left}
use Rattle.pdb.specs.ModuleStream.{ModuleBytes, symbols_at_of}
use Rattle.pdb.specs.Scopes.{starts_of}
use Rattle.pdb.specs.SymbolList.{Entry}
use Rattle.pdb_code.specs.Kept.{IsListed}
use Rattle.pdb_code.specs.ModuleCode.{symbols_in}
use Rattle.pdb_variables.specs.Variables.{records_behind}
use Rattle.pdb_places.proofs.RisingSymbols.{Above, Rises}
use Rattle.pdb_code.proofs.SiteCalls.{all_rise, from_index}

-- those that a scope has which a symbol starts
abbrev pub in_scope : Entry → List Entry → List Entry
in_scope s ss = cond (starts_of (kind_at s.bytes)) ss []

pub above_there : (n : ℕ) (xs : List Entry) (s : Entry) (after : List Entry) → Above n (xs ++ s ∷ after) → n < s.index
above_there n [] s after h = h.0
above_there n (y ∷ xs) s after h = above_there n xs s after h.1

-- as indices rise, the symbol of an index is the first of that index
pub behind_first : (i : ℕ) (before : List Entry) (s : Entry) (after : List Entry) → s.index ≡ i → Rises (before ++ s ∷ after) → records_behind i (before ++ s ∷ after) ≡ in_scope s after
behind_first i [] s after e r = ap (λ (b : Bool). cond b (in_scope s after) (records_behind i after)) (eq-eqb s.index i e)
behind_first i (x ∷ before) s after e r =
    let lower = above_there x.index before s after r.0 in
    ap (λ (b : Bool). cond b (in_scope x (before ++ s ∷ after)) (records_behind i (before ++ s ∷ after))) (ne_eqb x.index i (λ same. absurd (omega arith)))
    ∙ behind_first i before s after e r.1

abbrev head_or : Entry → List Entry → Entry
head_or d [] = d
head_or d (x ∷ xs) = x

abbrev tail : List Entry → List Entry
tail [] = []
tail (x ∷ xs) = xs

module _ (m : ModuleBytes) (i : ℕ) (left : Left Entry) (from : symbols_at_of i m ≡ Ok left) (l : IsListed i (symbols_in m)) where
  -- a symbol was given, and these are left
  pub behind_given : (s : Entry) (ss : List Entry) → left.items ≡ s ∷ ss → records_behind i (symbols_in m) ≡ in_scope s ss
  behind_given s ss e =
      let items : l.symbol ∷ l.after ≡ s ∷ ss = sym (from_index m i left from l) ∙ e in
      let rises : Rises (l.before ++ l.symbol ∷ l.after) = subst Rises l.whole (all_rise m) in
      ap (records_behind i) l.whole
      ∙ (behind_first i l.before l.symbol l.after l.index rises
      ∙ (ap (λ (t : Entry). in_scope t l.after) (ap (head_or s) items) ∙ ap (in_scope s) (ap tail items)))

  -- one is
  pub one_given : left.items ≡ [] → ⊥
  one_given e = empty (sym (from_index m i left from l) ∙ e)
    where
      empty : l.symbol ∷ l.after ≡ [] → ⊥
      empty f = absurd cc
