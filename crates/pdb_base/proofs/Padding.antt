-- Padding goes on to the next multiple.
use Rattle.std.proofs.Common.{◌≡◌, ℕ, suc, ◌+◌, ◌-◌, ◌*◌, ◌/◌, ◌%◌, ◌<◌, ◌≤◌, Bool, true, false, cond, List, length, Ok, ap, sym, ◌∙◌, inl, inr, refl, arith}
use Rattle.std.specs.Prelude.{◌==◌}
use Rattle.std.proofs.lemmas.Bool.{cases_lt}
use Rattle.std.proofs.lemmas.Bool.Decides.{nat_tests}
use Rattle.std.proofs.lemmas.Nat.{mod_below}
use Rattle.std.proofs.Math.Nat.{div-add-mod, mul-mod_right, lt_of_mul-lt-mul_left}
use Rattle.pdb_base.specs.Fields.{aligned_at, padding}
use Rattle.pdb_base.specs.Places.{IsAligned}

pub aligned_inside : (b : List ℕ) (p n : ℕ) (u : Unit {0}) → aligned_at b p n ≡ Ok u → p + padding p n ≤ length b
aligned_inside b p n u e = elim (cases_lt (length b) (p + padding p n)) [
  | inl past ↦ absurd (grind (arith, nat_tests))
  | inr there ↦ there
]

pub aligned_there : (b : List ℕ) (p n : ℕ) → p + padding p n ≤ length b → aligned_at b p n ≡ Ok tt
aligned_there b p n h = grind (arith, nat_tests)

-- two multiples that are fewer than n away from each other are one
one_multiple : (n p i k : ℕ) → p ≤ n * i → n * i < p + n → p ≤ n * k → n * k < p + n → i ≡ k
one_multiple n p i k a b c d =
    let up : i < suc k = lt_of_mul-lt-mul_left n (omega arith) in
    let down : k < suc i = lt_of_mul-lt-mul_left n (omega arith) in
    omega arith

multiple_is : (n q : ℕ) → q % n ≡ 0 → n * (q / n) ≡ q
multiple_is n q e = omega (arith, div-add-mod q n)

-- what the padding comes to, by its test
landed : (p n : ℕ) (t : Bool) → 0 < n → (p % n == 0) ≡ t → let q = p + cond t 0 (n - p % n) in (p ≤ q) × (q < p + n) × (q % n ≡ 0)
landed p n true pos e =
    let zero : p % n ≡ 0 = grind (arith, nat_tests) in
    let same : p + 0 ≡ p = omega arith in
    (omega arith, omega arith, rw (same, zero) refl)
landed p n false pos e =
    let below = mod_below p n pos in
    let over : 0 < p % n = grind (arith, nat_tests) in
    let whole : p + (n - p % n) ≡ n * suc (p / n) = omega (arith, below, div-add-mod p n) in
    (omega (arith, below), omega (arith, below, over), rw whole (mul-mod_right n (suc (p / n))))

pub aligned_is : (b : List ℕ) (p n q : ℕ) → 0 < n → aligned_at b p n ≡ Ok tt → q ≡ p + padding p n → IsAligned b p n q
aligned_is b p n q pos e is =
    let place = landed p n (p % n == 0) pos refl in
    rw is (record { behind = place.0; near = place.1; multiple = place.2; there = aligned_inside b p n tt e })

pub is_aligned : (b : List ℕ) (p n q : ℕ) → 0 < n → IsAligned b p n q → (aligned_at b p n ≡ Ok tt) × (q ≡ p + padding p n)
is_aligned b p n q pos h =
    let place = landed p n (p % n == 0) pos refl in
    let end = p + padding p n in
    let one = multiple_is n q h.multiple in
    let other = multiple_is n end place.2 in
    let same = one_multiple n p (q / n) (end / n) (omega (arith, one, h.behind)) (omega (arith, one, h.near)) (omega (arith, other, place.0)) (omega (arith, other, place.1)) in
    let is : q ≡ end = sym one ∙ ap (λ k. n * k) same ∙ other in
    (aligned_there b p n (rw (← is) h.there), is)
