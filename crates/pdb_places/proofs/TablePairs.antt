-- The pairs of a table, and the last of them at or before an address.
use Rattle.std.proofs.Common.{◌≡◌, ℕ, zero, suc, ◌+◌, ◌-◌, ◌/◌, ◌<◌, ◌≤◌, inl, inr, Bool, cond, List, [], ◌∷◌, length, get_or, Option, Some, None, refl, ap, ◌∙◌, arith}
use Rattle.std.specs.Prelude.{nat_le}
use Rattle.std.specs.Option.{option_or, option_and_then}
use Rattle.std.proofs.lemmas.Bool.{cases_lt, le-leb, lt-leb}
use Rattle.std.proofs.lemmas.List.FromFn.{get_or-map-range_with_len, length-map-range_with_len}
use Rattle.pdb_places.specs.AddressPlaces.{Pair, pair_in, pairs_in, Rises, last_upto, moved, moved_by}
use Rattle.pdb_places.specs.Behind.{IsBehindLast}
use Rattle.pdb_places.proofs.Keyed.{NeverFalls}

-- ---- the pairs by their numbers

pub pairs_count : (b : List ℕ) → length (pairs_in b) ≡ length b / 8
unfolding pairs_in
pairs_count b = length-map-range_with_len (pair_in b) 0 (length b / 8)

pub pair_is : (b : List ℕ) (k : ℕ) (d : Pair) → k < length b / 8 → get_or (pairs_in b) k d ≡ pair_in b k
unfolding pairs_in
pair_is b k d h = get_or-map-range_with_len (pair_in b) 0 (length b / 8) k k d h (omega arith)

-- where pair k begins
abbrev pub start_in : List ℕ → ℕ → ℕ
start_in b k = (pair_in b k).from

pub rises_numbers : (b : List ℕ) → Rises (pairs_in b) → NeverFalls (start_in b) (length b / 8)
rises_numbers b h j k l m =
    let there : k < length (pairs_in b) = rw (pairs_count b) m in
    rw (← ap (λ (p : Pair). p.from) (pair_is b j (pair_in b 0) (omega (arith, l, m))), ← ap (λ (p : Pair). p.from) (pair_is b k (pair_in b 0) m)) (h j k (pair_in b 0) l there)

pub numbers_rise : (b : List ℕ) → NeverFalls (start_in b) (length b / 8) → Rises (pairs_in b)
numbers_rise b h j k d l m =
    let there : k < length b / 8 = rw (← pairs_count b) m in
    rw (pair_is b j d (omega (arith, l, there)), pair_is b k d there) (h j k l there)

-- the first i never fall, and the next one doesn't
pub falls_not : (key : ℕ → ℕ) (i : ℕ) → 0 < i → NeverFalls key i → key (i - 1) ≤ key i → NeverFalls key (i + 1)
falls_not key i start so next j k l m = elim (cases_lt k i) [
  | inl before ↦ so j k l before
  | inr last ↦ (let here : k ≡ i = omega (arith, m, last) in elim (cases_lt j i) [
    | inl further ↦ (let a = so j (i - 1) (omega (arith, further)) (omega (arith, start)) in rw here (omega (arith, a, next)))
    | inr same ↦ (let at : j ≡ i = omega (arith, l, here, same) in rw (here, at) (omega arith))
  ])
]

-- a number falls below the one in front of it
pub never_from : (key : ℕ → ℕ) (n i : ℕ) → NeverFalls key n → i < n → key i < key (i - 1) → ⊥
never_from key n i so there falls = let a = so (i - 1) i (omega arith) there in absurd (omega (arith, a, falls))

-- ---- the last at or before an address

pub none_upto : (r : ℕ) (ps : List Pair) → ((k : ℕ) (d : Pair) → k < length ps → r < (get_or ps k d).from) → last_upto r ps ≡ None
none_upto r [] h = refl
none_upto r (p ∷ ps) h =
    ap (λ (o : Option Pair). option_or o (cond (nat_le p.from r) (Some p) None)) (none_upto r ps (λ k d l. h (suc k) d (omega (arith, l))))
    ∙ ap (λ (b : Bool). cond b (Some p) None) (lt-leb p.from r (h 0 p (omega arith)))

pub last_at : (r : ℕ) (ps : List Pair) (k : ℕ) (p : Pair) → k < length ps → get_or ps k p ≡ p → p.from ≤ r → ((j : ℕ) (d : Pair) → k < j → j < length ps → r < (get_or ps j d).from) → last_upto r ps ≡ Some p
last_at r [] k p there is upto last = absurd (omega (arith, there))
last_at r (q ∷ ps) zero p there is upto last =
    ap (λ (o : Option Pair). option_or o (cond (nat_le q.from r) (Some q) None)) (none_upto r ps (λ j d l. last (suc j) d (omega arith) (omega (arith, l))))
    ∙ (ap (λ (x : Pair). cond (nat_le x.from r) (Some x) None) is
    ∙ ap (λ (b : Bool). cond b (Some p) None) (le-leb p.from r upto))
last_at r (q ∷ ps) (suc k) p there is upto last =
    ap (λ (o : Option Pair). option_or o (cond (nat_le q.from r) (Some q) None)) (last_at r ps k p (omega (arith, there)) is upto (λ j d l m. last (suc j) d (omega (arith, l)) (omega (arith, m))))

pub moved_nowhere : (r : ℕ) (b : List ℕ) → IsBehindLast r b 0 → moved_by r (pairs_in b) ≡ None
moved_nowhere r b h = ap (option_and_then (moved r)) (none_upto r (pairs_in b) (λ k d l.
    let there : k < length b / 8 = rw (← pairs_count b) l in
    rw (pair_is b k d there) (h.last k (omega arith) there)))

pub moved_last : (r : ℕ) (b : List ℕ) (n : ℕ) → 0 < n → IsBehindLast r b n → moved_by r (pairs_in b) ≡ moved r (pair_in b (n - 1))
moved_last r b n some h = ap (option_and_then (moved r)) (last_at r (pairs_in b) (n - 1) (pair_in b (n - 1))
    (rw (pairs_count b) (omega (arith, some, h.inside)))
    (pair_is b (n - 1) (pair_in b (n - 1)) (omega (arith, some, h.inside)))
    (h.upto some)
    (λ j d l m.
    let there : j < length b / 8 = rw (← pairs_count b) m in
    rw (pair_is b j d there) (h.last j (omega (arith, l, some)) there)))
