-- The first of some numbers that passes a test, by positions.
use Rattle.std.proofs.Common.{◌≡◌, ℕ, zero, suc, ◌+◌, ◌<◌, ◌≤◌, Bool, true, false, cond, Some, None, refl, sym, ap, ◌∙◌, arith}
use Rattle.std.specs.Prelude.{◌⊎◌}
use Rattle.std.proofs.Common.{inl, inr}
use Rattle.std.proofs.lemmas.Bool.{cases_eq}
use Rattle.std.specs.List.{find, range_with_len}

-- i is the first of n numbers from s on that passes
pub record IsFirst (p : ℕ → Bool) (s n i : ℕ) : Type 0 where
  pub low : s ≤ i
  pub below : i < s + n
  pub passes : p i ≡ true
  pub first : (j : ℕ) → s ≤ j → j < i → p j ≡ false

abbrev pub NonePasses : (ℕ → Bool) → ℕ → ℕ → Type 0
NonePasses p s n = (j : ℕ) → s ≤ j → j < s + n → p j ≡ false

at_or_behind : (p : ℕ → Bool) (s j : ℕ) → p s ≡ false → (suc s ≤ j → p j ≡ false) → s ≤ j → p j ≡ false
at_or_behind p s j here behind low =
    elim (cases_eq j s) as (λ _. p j ≡ false) [ inl e ↦ ap p e ∙ here | inr ne ↦ behind (omega (arith, ne)) ]

is_first_of : (p : ℕ → Bool) (s n i : ℕ) (t : Bool) → p s ≡ t → (find p (range_with_len (s + 1) n) ≡ Some i → IsFirst p (s + 1) n i) → cond t (Some s) (find p (range_with_len (s + 1) n)) ≡ Some i → IsFirst p s (suc n) i
is_first_of p s n i true is more e =
    let same : s ≡ i = cc in
    record { low = omega arith; below = omega arith; passes = sym (ap p same) ∙ is; first = λ j a b. absurd (omega arith) }
is_first_of p s n i false is more e =
    let rest = more e in
    record { low = omega (arith, rest.low); below = omega (arith, rest.below); passes = rest.passes; first = λ j a b. at_or_behind p s j is (λ c. rest.first j (omega (arith, c)) b) a }

pub is_first : (p : ℕ → Bool) (s n i : ℕ) → find p (range_with_len s n) ≡ Some i → IsFirst p s n i
is_first p s zero i e = absurd cc
is_first p s (suc n) i e = is_first_of p s n i (p s) refl (is_first p (s + 1) n i) e

none_passes_of : (p : ℕ → Bool) (s n : ℕ) (t : Bool) → p s ≡ t → (find p (range_with_len (s + 1) n) ≡ None → NonePasses p (s + 1) n) → cond t (Some s) (find p (range_with_len (s + 1) n)) ≡ None → NonePasses p s (suc n)
none_passes_of p s n true is more e = absurd cc
none_passes_of p s n false is more e = λ j a b. at_or_behind p s j is (λ c. more e j (omega (arith, c)) (omega (arith, b))) a

pub none_passes : (p : ℕ → Bool) (s n : ℕ) → find p (range_with_len s n) ≡ None → NonePasses p s n
none_passes p s zero e = λ j a b. absurd (omega arith)
none_passes p s (suc n) e = none_passes_of p s n (p s) refl (none_passes p (s + 1) n) e

pub finds_none : (p : ℕ → Bool) (s n : ℕ) → NonePasses p s n → find p (range_with_len s n) ≡ None
finds_none p s zero h = refl
finds_none p s (suc n) h =
    let here : p s ≡ false = h s (omega arith) (omega arith) in
    rw here (finds_none p (s + 1) n (λ j a b. h j (omega (arith, a)) (omega (arith, b))))

finds_case : (p : ℕ → Bool) (s n i : ℕ) → ((s ≡ i) ⊎ (s ≡ i → ⊥)) → (IsFirst p (s + 1) n i → find p (range_with_len (s + 1) n) ≡ Some i) → IsFirst p s (suc n) i → cond (p s) (Some s) (find p (range_with_len (s + 1) n)) ≡ Some i
finds_case p s n i (inl e) more h = let here : p s ≡ true = ap p e ∙ h.passes in rw here (ap Some e)
finds_case p s n i (inr ne) more h =
    let here : p s ≡ false = h.first s (omega arith) (omega (arith, h.low, ne)) in
    rw here (more (record { low = omega (arith, h.low, ne); below = omega (arith, h.below); passes = h.passes; first = λ j a b. h.first j (omega (arith, a)) b }))

pub finds_first : (p : ℕ → Bool) (s n i : ℕ) → IsFirst p s n i → find p (range_with_len s n) ≡ Some i
finds_first p s zero i h = absurd (omega (arith, h.low, h.below))
finds_first p s (suc n) i h = finds_case p s n i (cases_eq s i) (finds_first p (s + 1) n i) h
