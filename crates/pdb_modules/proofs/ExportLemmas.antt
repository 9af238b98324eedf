-- Exports: what is the first of a local number, whether local numbers increase, and the search by halving.
use Rattle.std.proofs.Common.{◌≡◌, ℕ, zero, suc, ◌+◌, ◌-◌, ◌/◌, ◌^◌, ◌<◌, ◌≤◌, List, [], ◌∷◌, length, get_or, Bool, cond, Some, None, inl, inr, Ordering, refl, sym, subst, ap, ◌∙◌, arith}
use Rattle.std.proofs.lemmas.Bool.{eq-eqb, ne_eqb, cases_lt}
use Rattle.std.proofs.lemmas.List.{get_or_default}
use Rattle.pdb_modules.specs.CrossModule.{global_of, Increases}
use Rattle.std.specs.Ordering.{nat_cmp, MatchOrdering}
use Rattle.std.specs.Cmp.{ranks}
use Rattle.pdb_modules.proofs.Halving.{half_fewer}

-- ---- the first of a local number

pub first_is : (local : ℕ) (xs : List (ℕ × ℕ)) (k : ℕ) (d : ℕ × ℕ) → k < length xs → (get_or xs k d).0 ≡ local → ((j : ℕ) → j < k → (get_or xs j d).0 ≡ local → ⊥) → global_of local xs ≡ Some (get_or xs k d).1
first_is local [] k d h is before = absurd (omega (arith, h))
first_is local (x ∷ xs) zero d h is before = ap (λ (t : Bool). cond t (Some x.1) (global_of local xs)) (eq-eqb x.0 local is)
first_is local (x ∷ xs) (suc k) d h is before =
    ap (λ (t : Bool). cond t (Some x.1) (global_of local xs)) (ne_eqb x.0 local (before 0 (omega arith)))
    ∙ first_is local xs k d (omega (arith, h)) is (λ j l. before (suc j) (omega (arith, l)))

pub none_is : (local : ℕ) (xs : List (ℕ × ℕ)) (d : ℕ × ℕ) → ((j : ℕ) → j < length xs → (get_or xs j d).0 ≡ local → ⊥) → global_of local xs ≡ None
none_is local [] d other = refl
none_is local (x ∷ xs) d other =
    ap (λ (t : Bool). cond t (Some x.1) (global_of local xs)) (ne_eqb x.0 local (other 0 (omega arith)))
    ∙ none_is local xs d (λ j l. other (suc j) (omega (arith, l)))

-- ---- the first i local numbers increase

abbrev pub IncreasesTo : List (ℕ × ℕ) → ℕ → Type 0
IncreasesTo xs i = (j k : ℕ) (d : ℕ × ℕ) → j < k → k < i → (get_or xs j d).0 < (get_or xs k d).0

pub increases_on : (xs : List (ℕ × ℕ)) (i : ℕ) → 0 < i → IncreasesTo xs i → ((d : ℕ × ℕ) → (get_or xs (i - 1) d).0 < (get_or xs i d).0) → IncreasesTo xs (i + 1)
increases_on xs i start so next j k d h l = elim (cases_lt k i) [
  | inl before ↦ so j k d h before
  | inr last ↦ (let here : k ≡ i = omega (arith, l, last) in elim (cases_lt j (i - 1)) [
    | inl further ↦ (let a = so j (i - 1) d further (omega (arith, start)) in let b = next d in rw here (omega (arith, a, b)))
    | inr beside ↦ (let at : j ≡ i - 1 = omega (arith, h, l, beside, here) in rw (here, at) (next d))
  ])
]

-- what a comparison answers
pub ranked : (x y : ℕ) (r : Ordering) → r ≡ nat_cmp x y → MatchOrdering r (x < y) (x ≡ y) (y < x)
ranked x y r e = subst (λ (k : Ordering). MatchOrdering k (x < y) (x ≡ y) (y < x)) (sym e) (ranks x y)

-- ---- halving

-- those before low are below the number, and those from high on above it; each comparison took a binary digit
pub record IsHalvedAt (local : ℕ) (xs : List (ℕ × ℕ)) (low high before now : ℕ) : Type 0 where
  pub ordered : low ≤ high
  pub inside : high ≤ length xs
  pub below : (k : ℕ) (d : ℕ × ℕ) → k < low → (get_or xs k d).0 < local
  pub above : (k : ℕ) (d : ℕ × ℕ) → high ≤ k → k < length xs → local < (get_or xs k d).0
  pub probes : (digits : ℕ) → length xs < 2 ^ digits → (rest : ℕ) × (now + rest ≤ before + digits) × (high - low < 2 ^ rest)
  pub grows : before ≤ now
  pub asks : now ≡ before → high - low ≡ length xs

module _ (local : ℕ) (xs : List (ℕ × ℕ)) (low high middle before now : ℕ) (d : ℕ × ℕ) (halved : IsHalvedAt local xs low high before now) (order : Increases xs) (goes : low < high) (is : middle ≡ low + (high - low) / 2) where
  middle_inside : middle < high
  middle_inside = omega (arith, is, goes)

  middle_there : middle < length xs
  middle_there = omega (arith, halved.inside, middle_inside)

  halves : (digits : ℕ) → length xs < 2 ^ digits → (rest : ℕ) × (now + 1 + rest ≤ before + digits) × ((high - low) / 2 < 2 ^ rest)
  halves digits h =
      let p = halved.probes digits h in
      let f = half_fewer (high - low) p.0 (omega (arith, goes)) p.2 in
      (f.0, omega (arith, p.1, f.1), f.2)

  pub halves_up : (get_or xs middle d).0 < local → IsHalvedAt local xs (middle + 1) high before (now + 1)
  halves_up test = record {
    ordered = omega (arith, middle_inside);
    inside = halved.inside;
    below = λ k e h. elim (cases_lt k middle) [
      | inl less ↦ (let a = order k middle e less middle_there in omega (arith, a, here e))
      | inr not ↦ (let at : k ≡ middle = omega (arith, h, not) in rw at (here e))
    ];
    above = halved.above;
    probes = λ digits h. let p = halves digits h in (p.0, p.1, omega (arith, p.2, is));
    grows = omega (arith, halved.grows);
    asks = λ e. absurd (omega (arith, halved.grows, e));
  }
    where
      here : (e : ℕ × ℕ) → (get_or xs middle e).0 < local
      here e = rw (get_or_default xs middle e d middle_there) test

  pub halves_down : local < (get_or xs middle d).0 → IsHalvedAt local xs low middle before (now + 1)
  halves_down test = record {
    ordered = omega (arith, is);
    inside = omega (arith, middle_there);
    below = halved.below;
    above = λ k e h l. elim (cases_lt middle k) [
      | inl more ↦ (let a = order middle k e more l in omega (arith, a, here e))
      | inr not ↦ (let at : k ≡ middle = omega (arith, h, not) in rw at (here e))
    ];
    probes = λ digits h. let p = halves digits h in (p.0, p.1, omega (arith, p.2, is));
    grows = omega (arith, halved.grows);
    asks = λ e. absurd (omega (arith, halved.grows, e));
  }
    where
      here : (e : ℕ × ℕ) → local < (get_or xs middle e).0
      here e = rw (get_or_default xs middle e d middle_there) test

  -- the one at the middle is the first
  pub found_middle : (get_or xs middle d).0 ≡ local → global_of local xs ≡ Some (get_or xs middle d).1
  found_middle same = first_is local xs middle d middle_there same (λ j h e. let a = order j middle d h middle_there in omega (arith, a, e, same))

  pub halved_probes : (digits : ℕ) → length xs < 2 ^ digits → now + 1 ≤ before + digits
  halved_probes digits h = let p = halves digits h in omega (arith, p.1)

-- there is none
pub found_none : (local : ℕ) (xs : List (ℕ × ℕ)) (low high before now : ℕ) → IsHalvedAt local xs low high before now → high ≤ low → global_of local xs ≡ None
found_none local xs low high before now halved over = none_is local xs (0, 0) (λ j h e. elim (cases_lt j low) [
  | inl less ↦ (let a = halved.below j (0, 0) less in omega (arith, a, e))
  | inr not ↦ (let a = halved.above j (0, 0) (omega (arith, over, not)) h in omega (arith, a, e))
])
