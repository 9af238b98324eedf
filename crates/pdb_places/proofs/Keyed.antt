-- The search by halving for how many numbers of a list that never falls are at or below one: over the number at each position.
use Rattle.std.proofs.Common.{◌≡◌, ℕ, zero, suc, ◌+◌, ◌-◌, ◌/◌, ◌^◌, ◌<◌, ◌≤◌, refl, arith}
use Rattle.std.proofs.Math.Nat.{pow-succ'}

abbrev Fewer : ℕ → ℕ → Type 0
Fewer n digits = (m : ℕ) × (digits ≡ suc m) × (n / 2 < 2 ^ m)

pub half_fewer : (n digits : ℕ) → 0 < n → n < 2 ^ digits → Fewer n digits
half_fewer n zero h k = absurd (omega arith)
half_fewer n (suc m) h k = (m, refl, omega (arith, pow-succ' 2 m))

-- the first n numbers never fall
abbrev pub NeverFalls : (ℕ → ℕ) → ℕ → Type 0
NeverFalls key n = (j k : ℕ) → j ≤ k → k < n → key j ≤ key k

-- those in front of low are at most `at`, those from high on above it; each look took a binary digit
pub record IsKeyed (key : ℕ → ℕ) (n at low high before now : ℕ) : Type 0 where
  pub ordered : low ≤ high
  pub inside : high ≤ n
  pub below : (k : ℕ) → k < low → key k ≤ at
  pub above : (k : ℕ) → high ≤ k → k < n → at < key k
  pub probes : (digits : ℕ) → n < 2 ^ digits → (rest : ℕ) × (now + rest ≤ before + digits) × (high - low < 2 ^ rest)

module _ (key : ℕ → ℕ) (n at low high middle before now : ℕ) (keyed : IsKeyed key n at low high before now) (order : NeverFalls key n) (goes : low < high) (is : middle ≡ low + (high - low) / 2) where
  middle_inside : middle < high
  middle_inside = omega (arith, is, goes)

  pub middle_there : middle < n
  middle_there = omega (arith, keyed.inside, middle_inside)

  halves : (digits : ℕ) → n < 2 ^ digits → (rest : ℕ) × (now + 1 + rest ≤ before + digits) × ((high - low) / 2 < 2 ^ rest)
  halves digits h =
      let p = keyed.probes digits h in
      let f = half_fewer (high - low) p.0 (omega (arith, goes)) p.2 in
      (f.0, omega (arith, p.1, f.1), f.2)

  pub keyed_up : key middle ≤ at → IsKeyed key n at (middle + 1) high before (now + 1)
  keyed_up h = record {
    ordered = omega (arith, middle_inside);
    inside = keyed.inside;
    below = λ k l. let o = order k middle (omega (arith, l)) middle_there in omega (arith, o, h);
    above = keyed.above;
    probes = λ digits l. let p = halves digits l in (p.0, p.1, omega (arith, p.2, is));
  }

  pub keyed_down : at < key middle → IsKeyed key n at low middle before (now + 1)
  keyed_down h = record {
    ordered = omega (arith, is);
    inside = omega (arith, middle_there);
    below = keyed.below;
    above = λ k l m. let o = order middle k l m in omega (arith, o, h);
    probes = λ digits l. let p = halves digits l in (p.0, p.1, omega (arith, p.2, is));
  }

-- a number has no more binary digits than it tells
pub below_power : (n : ℕ) → n < 2 ^ n
below_power zero = omega arith
below_power (suc n) = let h = below_power n in omega (arith, pow-succ' 2 n, h)

pub keyed_probes : (key : ℕ → ℕ) (n at low high before now : ℕ) → IsKeyed key n at low high before now → (digits : ℕ) → n < 2 ^ digits → now ≤ before + digits
keyed_probes key n at low high before now keyed digits h = let p = keyed.probes digits h in omega (arith, p.1)

pub keyed_few : (key : ℕ → ℕ) (n at low high before now : ℕ) → IsKeyed key n at low high before now → now ≤ before + n
keyed_few key n at low high before now keyed = keyed_probes key n at low high before now keyed n (below_power n)
