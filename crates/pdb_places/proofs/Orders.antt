-- Ranges in order: neighbours in order are enough.
use Rattle.std.proofs.Common.{◌≡◌, ℕ, ◌+◌, ◌-◌, ◌<◌, ◌≤◌, inl, inr, List, length, get_or, ◌∙◌, arith}
use Rattle.std.proofs.lemmas.Bool.{cases_lt}
use Rattle.std.proofs.lemmas.List.{get_or_default}
use Rattle.pdb_places.specs.declared.range.CodeRange.{CodeRange}
use Rattle.pdb_places.specs.RangeOrder.{start_of, end_of, Goes, InOrder}
use Rattle.pdb_places.proofs.Coverings.{start_end, same_start, same_end}

pub goes_trans : (a b c : CodeRange) → Goes a b → Goes b c → Goes a c
goes_trans a b c (inl h) (inl k) = inl (h.0 ∙ k.0, h.1 ∙ k.1, h.2 ∙ k.2)
goes_trans a b c (inl h) (inr k) = let e = same_end a b h in inr (omega arith)
goes_trans a b c (inr h) (inl k) = let e = same_start b c k in inr (omega arith)
goes_trans a b c (inr h) (inr k) = let e = start_end b in inr (omega arith)

pub goes_ends : (a b : CodeRange) → Goes a b → end_of a ≤ end_of b
goes_ends a b (inl h) = let e = same_end a b h in omega arith
goes_ends a b (inr h) = let e = start_end b in omega arith

pub goes_starts : (a b : CodeRange) → Goes a b → start_of a ≤ start_of b
goes_starts a b (inl h) = let e = same_start a b h in omega arith
goes_starts a b (inr h) = let e = start_end a in omega arith

-- the first i are in order
abbrev pub InOrderTo : List CodeRange → ℕ → Type 0
InOrderTo rs i = (j k : ℕ) (d : CodeRange) → j < k → k < i → Goes (get_or rs j d) (get_or rs k d)

pub in_order_on : (rs : List CodeRange) (i : ℕ) → 0 < i → InOrderTo rs i → ((d : CodeRange) → Goes (get_or rs (i - 1) d) (get_or rs i d)) → InOrderTo rs (i + 1)
in_order_on rs i start so next j k d h l = elim (cases_lt k i) [
  | inl before ↦ so j k d h before
  | inr last ↦ (let here : k ≡ i = omega (arith, l, last) in elim (cases_lt j (i - 1)) [
    | inl further ↦ rw here (goes_trans (get_or rs j d) (get_or rs (i - 1) d) (get_or rs i d) (so j (i - 1) d further (omega (arith, start))) (next d))
    | inr beside ↦ (let at : j ≡ i - 1 = omega (arith, h, l, beside, here) in rw (here, at) (next d))
  ])
]

pub in_order_whole : (rs : List CodeRange) (i : ℕ) → length rs ≤ i → InOrderTo rs i → InOrder rs
in_order_whole rs i l so = record { go = λ j k d h m. so j k d h (omega arith) }

-- two neighbours are not
pub not_in_order : (rs : List CodeRange) (i : ℕ) (a b : CodeRange) → 0 < i → i < length rs → a ≡ get_or rs (i - 1) a → b ≡ get_or rs i b → (Goes a b → ⊥) → InOrder rs → ⊥
not_in_order rs i a b start l a_is b_is not_so order =
    not_so (rw (a_is, b_is, get_or_default rs i b a l) (order.go (i - 1) i a (omega arith) l))
