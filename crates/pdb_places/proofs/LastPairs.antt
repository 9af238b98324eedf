-- The pair that is chosen for an address is the last one at or before it, by positions.
use Rattle.std.proofs.Common.{◌≡◌, ℕ, zero, suc, ◌<◌, ◌≤◌, inl, inr, Bool, true, false, cond, List, [], ◌∷◌, length, get_or, Option, Some, None, refl, subst, ap, ◌∙◌, arith}
use Rattle.std.specs.Prelude.{nat_le}
use Rattle.std.specs.Option.{option_or}
use Rattle.std.proofs.lemmas.Bool.{cases_lt, leb-true, leb-false}
use Rattle.std.proofs.lemmas.List.{get_or_default}
use Rattle.pdb_places.specs.AddressPlaces.{Pair, IsLastUpto, last_upto}
use Rattle.pdb_places.proofs.TablePairs.{last_at}

pub is_last : (r : ℕ) (ps : List Pair) (k : ℕ) (p : Pair) → IsLastUpto r ps k p → last_upto r ps ≡ Some p
is_last r ps k p h = last_at r ps k p h.there h.is h.upto (λ j d l m. elim (cases_lt r (get_or ps j d).from) [
  | inl behind ↦ behind
  | inr not ↦ absurd (h.last j l m (subst (λ (x : Pair). x.from ≤ r) (get_or_default ps j d p m) not))
])

-- none is chosen where all begin behind the address
none_here : (b : Bool) (p : Pair) → cond b (Some p) None ≡ None → b ≡ false
none_here true p e = absurd cc
none_here false p e = refl

pub all_behind : (r : ℕ) (ps : List Pair) → last_upto r ps ≡ None → (k : ℕ) (d : Pair) → k < length ps → r < (get_or ps k d).from
all_behind r [] e k d h = absurd (omega (arith, h))
all_behind r (p ∷ ps) e k d h = by_rest (last_upto r ps) refl e k h (λ f k h. all_behind r ps f k d h)
  where
    Behind : Type 0
    Behind = last_upto r ps ≡ None → (k : ℕ) → k < length ps → r < (get_or ps k d).from

    by_rest : (o : Option Pair) → last_upto r ps ≡ o → option_or o (cond (nat_le p.from r) (Some p) None) ≡ None → (k : ℕ) → k < length (p ∷ ps) → Behind → r < (get_or (p ∷ ps) k d).from
    by_rest (Some t) f e k h rest = absurd cc
    by_rest None f e zero h rest = leb-false p.from r (none_here (nat_le p.from r) p e)
    by_rest None f e (suc k) h rest = rest f k (omega (arith, h))

-- and the one that is chosen is the last one at or before it
abbrev Chosen : ℕ → List Pair → Pair → Type 0
Chosen r ps p = (k : ℕ) × IsLastUpto r ps k p

one_further : (r : ℕ) (q : Pair) (ps : List Pair) (k : ℕ) (p : Pair) → IsLastUpto r ps k p → IsLastUpto r (q ∷ ps) (suc k) p
one_further r q ps k p l = record { there = omega (arith, l.there); is = l.is; upto = l.upto; last = last }
  where
    last : (j : ℕ) → suc k < j → j < length (q ∷ ps) → (get_or (q ∷ ps) j p).from ≤ r → ⊥
    last zero h i = absurd (omega (arith, h))
    last (suc j) h i = l.last j (omega (arith, h)) (omega (arith, i))

first_alone : (r : ℕ) (p : Pair) (ps : List Pair) → p.from ≤ r → last_upto r ps ≡ None → IsLastUpto r (p ∷ ps) 0 p
first_alone r p ps upto none = record { there = omega arith; is = refl; upto = upto; last = last }
  where
    last : (j : ℕ) → 0 < j → j < length (p ∷ ps) → (get_or (p ∷ ps) j p).from ≤ r → ⊥
    last zero h i = absurd (omega (arith, h))
    last (suc j) h i = λ u. let a = all_behind r ps none j p (omega (arith, i)) in omega (arith, a, u)

pub last_found : (r : ℕ) (ps : List Pair) (p : Pair) → last_upto r ps ≡ Some p → Chosen r ps p
last_found r [] p e = absurd cc
last_found r (q ∷ ps) p e = by_rest (last_upto r ps) refl e (λ f. last_found r ps p f)
  where
    here : (b : Bool) → nat_le q.from r ≡ b → last_upto r ps ≡ None → cond b (Some q) None ≡ Some p → Chosen r (q ∷ ps) p
    here true u none e = let same : q ≡ p = cc in (0, rw (← same) (first_alone r q ps (leb-true q.from r u) none))
    here false u none e = absurd cc

    by_rest : (o : Option Pair) → last_upto r ps ≡ o → option_or o (cond (nat_le q.from r) (Some q) None) ≡ Some p → (last_upto r ps ≡ Some p → Chosen r ps p) → Chosen r (q ∷ ps) p
    by_rest (Some t) f e rest = let same : t ≡ p = cc in let found = rest (f ∙ ap Some same) in (suc found.0, one_further r q ps found.0 p found.1)
    by_rest None f e rest = here (nat_le q.from r) refl f e
