-- Laws of the list of symbols.
use Rattle.std.proofs.Common.{◌≡◌, ℕ, zero, suc, ◌+◌, ◌-◌, ◌*◌, ◌<◌, ◌≤◌, min, List, [], ◌∷◌, ◌++◌, length, take, drop, Option, Some, None, refl, sym, ap, subst, ◌∙◌, ◌⊎◌, inl, inr, arith, length-take, length-drop}
use Rattle.std.proofs.lemmas.Bool.Decides.{nat_tests}
use Rattle.std.specs.List.{sum_by}
use Rattle.std.proofs.lemmas.List.Sums.{sum_by-cons}
use Rattle.pdb_base.specs.Fields.{number}
use Rattle.pdb_base.specs.Left.{Left}
use Rattle.pdb_base.specs.Tiling.{Tiles, items_of, listing}
use Rattle.pdb_base.proofs.Tilings.{behind, listing_piece, listing_padding, listing_stop}
use Rattle.pdb_symbols.specs.SymbolList.{Entry, symbols, symbols_from, symbol_of_bytes, StandsBehind}
use Rattle.pdb_symbols.proofs.SymbolSteps.{symbols_inside}

-- ---- how a list begins

-- no record that makes a symbol, or padding, begins at p
abbrev Stops : List ℕ → ℕ → Type 0
Stops b p = (listing symbols b p).items ≡ []

-- padding begins at p
record Pads (b : List ℕ) (p : ℕ) : Type 0 where
  width : ℕ
  piece : symbols.piece b p ≡ Some width
  inside : p + width ≤ length b
  wide : 4 ≤ width
  none : symbols.item b p width ≡ None
  same : listing symbols b p ≡ listing symbols b (p + width)

-- a symbol begins at p
record Gives (b : List ℕ) (p : ℕ) : Type 0 where
  width : ℕ
  symbol : Entry
  inside : p + width ≤ length b
  wide : 4 ≤ width
  place : symbol.index ≡ p
  ends : p + width ≡ symbol.index + 2 + length symbol.bytes
  same : listing symbols b p ≡ record { items = symbol ∷ (listing symbols b (p + width)).items; fault = (listing symbols b (p + width)).fault }

abbrev Turn : List ℕ → ℕ → Type 0
Turn b p = Stops b p ⊎ (Pads b p ⊎ Gives b p)

record_width : (b : List ℕ) (p k : ℕ) → symbols.piece b p ≡ Some k → (k ≡ 2 + number b p 2) × (4 ≤ k) × (p + k ≤ length b)
record_width b p k e = grind (arith, nat_tests)

symbol_parts : (p : ℕ) (s : List ℕ) (x : Entry) → symbol_of_bytes p s ≡ Some x → (x.index ≡ p) × (x.bytes ≡ s)
symbol_parts p s x e = grind (arith, nat_tests)

turn_item : (b : List ℕ) (p k : ℕ) (o : Option Entry) → symbols.piece b p ≡ Some k → symbols.item b p k ≡ o → Turn b p
turn_item b p k None e f =
    let w = record_width b p k e in
    inr (inl (record { width = k; piece = e; inside = w.2; wide = w.1; none = f; same = listing_padding symbols symbols_inside b p k e f }))
turn_item b p k (Some x) e f =
    let w = record_width b p k e in
    let parts = symbol_parts p (take (number b p 2) (drop (p + 2) b)) x f in
    let width = w.0 in
    let inside = w.2 in
    let long : length (take (number b p 2) (drop (p + 2) b)) ≡ number b p 2 = simp (length-take, length-drop) (omega arith) in
    inr (inr (record {
      width = k;
      symbol = x;
      inside = w.2;
      wide = w.1;
      place = parts.0;
      ends = rw (parts.0, parts.1, long) (omega arith);
      same = listing_piece symbols symbols_inside b p k e ∙ ap (λ (o : Option Entry). behind o (listing symbols b (p + k))) f;
    }))

turn_piece : (b : List ℕ) (p : ℕ) (o : Option ℕ) → symbols.piece b p ≡ o → Turn b p
turn_piece b p None e = inl (ap (λ (l : Left Entry). l.items) (listing_stop symbols b p e))
turn_piece b p (Some k) e = turn_item b p k (symbols.item b p k) e refl

turn : (b : List ℕ) (p : ℕ) → Turn b p
turn b p = turn_piece b p (symbols.piece b p) refl

no_items : (before after : List Entry) (s : Entry) → [] ≡ before ++ s ∷ after → ⊥
no_items [] after s e = absurd cc
no_items (x ∷ before) after s e = absurd cc

items_same : (l m : Left Entry) → l ≡ m → l.items ≡ m.items
items_same l m e = ap (λ (x : Left Entry). x.items) e

-- ---- a list that begins at the index of a symbol

-- a list from the symbol's index begins with it, and then has what the list from p has
abbrev Resumes : List ℕ → ℕ → Entry → List Entry → Type 0
Resumes b p s after = (s.index ≤ length b) × (listing symbols b s.index ≡ record { items = s ∷ after; fault = (listing symbols b p).fault })

-- the same of each place behind p
abbrev ResumesLater : List ℕ → ℕ → Entry → List Entry → Type 0
ResumesLater b p s after = (q : ℕ) (before : List Entry) → p < q → q ≤ length b → (listing symbols b q).items ≡ before ++ s ∷ after → Resumes b q s after

resumes_here : (b : List ℕ) (p : ℕ) (before after : List Entry) (s : Entry) → ResumesLater b p s after → (g : Gives b p) → g.symbol ∷ (listing symbols b (p + g.width)).items ≡ before ++ s ∷ after → (listing symbols b p).items ≡ before ++ s ∷ after → Resumes b p s after
resumes_here b p [] after s later g h e =
    let first : g.symbol ≡ s = cc in
    let place : s.index ≡ p = ap (λ (x : Entry). x.index) (sym first) ∙ g.place in
    let inside = g.inside in
    (omega arith, ap (listing symbols b) place ∙ ap (λ (xs : List Entry). record { items = xs; fault = (listing symbols b p).fault }) e)
resumes_here b p (x ∷ before) after s later g h e =
    let rest : (listing symbols b (p + g.width)).items ≡ before ++ s ∷ after = cc in
    let wide = g.wide in
    let found = later (p + g.width) before (omega arith) g.inside rest in
    (found.0, found.1 ∙ ap (λ (l : Left Entry). record { items = s ∷ after; fault = l.fault }) (sym g.same))

resumes_turn : (b : List ℕ) (p : ℕ) (before after : List Entry) (s : Entry) → ResumesLater b p s after → (listing symbols b p).items ≡ before ++ s ∷ after → Turn b p → Resumes b p s after
resumes_turn b p before after s later e (inl stops) = absurd (no_items before after s (sym stops ∙ e))
resumes_turn b p before after s later e (inr (inl pads)) =
    let wide = pads.wide in
    let found = later (p + pads.width) before (omega arith) pads.inside (sym (items_same _ _ pads.same) ∙ e) in
    (found.0, found.1 ∙ ap (λ (l : Left Entry). record { items = s ∷ after; fault = l.fault }) (sym pads.same))
resumes_turn b p before after s later e (inr (inr gives)) = resumes_here b p before after s later gives (sym (items_same _ _ gives.same) ∙ e) e

resumes : (b : List ℕ) (n p : ℕ) (before after : List Entry) (s : Entry) → length b ≤ p + n → (listing symbols b p).items ≡ before ++ s ∷ after → Resumes b p s after
resumes b zero p before after s h e = resumes_turn b p before after s (λ q xs lt le f. absurd (omega arith)) e (turn b p)
resumes b (suc n) p before after s h e = resumes_turn b p before after s (λ q xs lt le f. resumes b n q xs after s (omega arith) f) e (turn b p)

pub resumes_at : (b : List ℕ) (p : ℕ) (before after : List Entry) (s : Entry) → (symbols_from b p).items ≡ before ++ s ∷ after → symbols_from b s.index ≡ record { items = s ∷ after; fault = (symbols_from b p).fault }
resumes_at b p before after s e =
    let found = resumes b (length b) (min p (length b)) before after s (omega arith) e in
    let inside = found.0 in
    let place : min s.index (length b) ≡ s.index = omega arith in
    ap (listing symbols b) place ∙ found.1

-- ---- neighbours

-- whole padding from p to q
record Run (b : List ℕ) (p q : ℕ) : Type 0 where
  padding : List (ℕ × ℕ)
  whole : Tiles symbols b p padding q
  no_symbol : items_of symbols b padding ≡ []
  apart : q ≡ p + sum_by (λ t. t.1) padding

longer : (b : List ℕ) (p q : ℕ) (pads : Pads b p) → Run b (p + pads.width) q → Run b p q
longer b p q pads run = record {
  padding = (p, pads.width) ∷ run.padding;
  whole = (refl, pads.piece, run.whole);
  no_symbol = rw pads.none run.no_symbol;
  apart = let e = run.apart in let more = sum_by-cons (λ (t : ℕ × ℕ). t.1) (p, pads.width) run.padding in omega arith;
}

first_turn : (b : List ℕ) (p : ℕ) (after : List Entry) (t : Entry) → ((q : ℕ) → p < q → q ≤ length b → (listing symbols b q).items ≡ t ∷ after → Run b q t.index) → (listing symbols b p).items ≡ t ∷ after → Turn b p → Run b p t.index
first_turn b p after t later e (inl stops) = absurd (no_items [] after t (sym stops ∙ e))
first_turn b p after t later e (inr (inl pads)) =
    let wide = pads.wide in
    longer b p t.index pads (later (p + pads.width) (omega arith) pads.inside (sym (items_same _ _ pads.same) ∙ e))
first_turn b p after t later e (inr (inr gives)) =
    let f = sym (items_same _ _ gives.same) ∙ e in
    let first : gives.symbol ≡ t = cc in
    let place : t.index ≡ p = ap (λ (x : Entry). x.index) (sym first) ∙ gives.place in
    record { padding = []; whole = sym place; no_symbol = refl; apart = omega arith }

first_at : (b : List ℕ) (n p : ℕ) (after : List Entry) (t : Entry) → length b ≤ p + n → (listing symbols b p).items ≡ t ∷ after → Run b p t.index
first_at b zero p after t h e = first_turn b p after t (λ q lt le f. absurd (omega arith)) e (turn b p)
first_at b (suc n) p after t h e = first_turn b p after t (λ q lt le f. first_at b n q after t (omega arith) f) e (turn b p)

behind_turn : (b : List ℕ) (p : ℕ) (after : List Entry) (s t : Entry) → (listing symbols b p).items ≡ s ∷ t ∷ after → s.index ≡ p → Turn b p → StandsBehind b s t
behind_turn b p after s t e place (inl stops) = absurd (no_items [] (t ∷ after) s (sym stops ∙ e))
behind_turn b p after s t e place (inr (inl pads)) =
    let wide = pads.wide in
    let run = first_at b (length b) (p + pads.width) (t ∷ after) s (omega arith) (sym (items_same _ _ pads.same) ∙ e) in
    let apart = run.apart in
    absurd (omega arith)
behind_turn b p after s t e place (inr (inr gives)) =
    let f = sym (items_same _ _ gives.same) ∙ e in
    let first : gives.symbol ≡ s = cc in
    let rest : (listing symbols b (p + gives.width)).items ≡ t ∷ after = cc in
    let ends = subst (λ (x : Entry). p + gives.width ≡ x.index + 2 + length x.bytes) first gives.ends in
    let run = subst (λ (q : ℕ). Run b q t.index) ends (first_at b (length b) (p + gives.width) after t (omega arith) rest) in
    record { padding = run.padding; whole = run.whole; no_symbol = run.no_symbol; apart = run.apart }

pub spaced : (b : List ℕ) (p : ℕ) (before after : List Entry) (s t : Entry) → (symbols_from b p).items ≡ before ++ s ∷ t ∷ after → StandsBehind b s t
spaced b p before after s t e =
    let found = resumes b (length b) (min p (length b)) before (t ∷ after) s (omega arith) e in
    behind_turn b s.index after s t (items_same _ _ found.1) refl (turn b s.index)

-- ---- how many symbols there are

few_turn : (b : List ℕ) (p : ℕ) → p ≤ length b → ((q : ℕ) → p < q → q ≤ length b → 4 * length (listing symbols b q).items + q ≤ length b) → Turn b p → 4 * length (listing symbols b p).items + p ≤ length b
few_turn b p h later (inl stops) = rw stops (omega arith)
few_turn b p h later (inr (inl pads)) =
    let wide = pads.wide in
    let rest = later (p + pads.width) (omega arith) pads.inside in
    rw pads.same (omega arith)
few_turn b p h later (inr (inr gives)) =
    let wide = gives.wide in
    let rest = later (p + gives.width) (omega arith) gives.inside in
    rw gives.same (omega arith)

few_at : (b : List ℕ) (n p : ℕ) → p ≤ length b → length b ≤ p + n → 4 * length (listing symbols b p).items + p ≤ length b
few_at b zero p h k = few_turn b p h (λ q lt le. absurd (omega arith)) (turn b p)
few_at b (suc n) p h k = few_turn b p h (λ q lt le. few_at b n q le (omega arith)) (turn b p)

pub one_for_four : (b : List ℕ) (p : ℕ) → 4 * length (symbols_from b p).items ≤ length b - p
one_for_four b p = let few = few_at b (length b) (min p (length b)) (omega arith) (omega arith) in omega arith
