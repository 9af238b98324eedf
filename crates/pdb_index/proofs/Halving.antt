-- The search by halving, among rows from `first` on and before `behind`.
use Rattle.std.proofs.Common.{◌≡◌, ℕ, zero, suc, ◌+◌, ◌-◌, ◌/◌, ◌^◌, ◌<◌, ◌≤◌, refl, arith}
use Rattle.std.proofs.Math.Nat.{pow-succ'}

abbrev Fewer : ℕ → ℕ → Type 0
Fewer n digits = (m : ℕ) × (digits ≡ suc m) × (n / 2 < 2 ^ m)

half_fewer : (n digits : ℕ) → 0 < n → n < 2 ^ digits → Fewer n digits
half_fewer n zero h k = absurd (omega arith)
half_fewer n (suc m) h k = (m, refl, omega (arith, pow-succ' 2 m))

-- each look takes a binary digit of how many rows there are
pub record IsCounted (rows left before now : ℕ) : Type 0 where
  pub each : (digits : ℕ) → rows < 2 ^ digits → (rest : ℕ) × (now + rest ≤ before + digits) × (left < 2 ^ rest)

pub unlooked : (rows before : ℕ) → IsCounted rows rows before before
unlooked rows before = record { each = λ digits h. (digits, omega arith, h) }

-- one look leaves at most half
pub looked : (rows left more before now : ℕ) → IsCounted rows left before now → 0 < left → more ≤ left / 2 → IsCounted rows more before (now + 1)
looked rows left more before now counted some half = record {
  each = λ digits h.
      let p = counted.each digits h in
      let f = half_fewer left p.0 some p.2 in
      let a = p.1 in
      let b = f.1 in
      let d = f.2 in
      (f.0, omega (arith, a, b), omega (arith, d, half));
}

-- the row before `low` begins at or before `at`, and that of `high` behind it
pub record Halves (key : ℕ → ℕ) (first behind at low high before now : ℕ) : Type 0 where
  pub from : first ≤ low
  pub ordered : low ≤ high
  pub inside : high ≤ behind
  pub below : first < low → key (low - 1) ≤ at
  pub above : high < behind → at < key high
  pub counted : IsCounted (behind - first) (high - low) before now

pub within : (rows left before now digits : ℕ) → IsCounted rows left before now → rows < 2 ^ digits → now ≤ before + digits
within rows left before now digits counted h = let p = (counted.each digits h).1 in omega (arith, p)

module _ (key : ℕ → ℕ) (first behind at low high middle before now : ℕ) (halves : Halves key first behind at low high before now) (goes : low < high) (is : middle ≡ low + (high - low) / 2) where
  pub upper : key middle ≤ at → Halves key first behind at (middle + 1) high before (now + 1)
  upper h = record {
    from = omega (arith, halves.from, is);
    ordered = omega (arith, is, goes);
    inside = halves.inside;
    below = λ l. let e : middle + 1 - 1 ≡ middle = omega arith in rw e h;
    above = halves.above;
    counted = looked (behind - first) (high - low) (high - (middle + 1)) before now halves.counted (omega (arith, goes)) (omega (arith, is, goes));
  }

  pub lower : at < key middle → Halves key first behind at low middle before (now + 1)
  lower h = record {
    from = halves.from;
    ordered = omega (arith, is);
    inside = omega (arith, is, goes, halves.inside);
    below = halves.below;
    above = λ l. h;
    counted = looked (behind - first) (high - low) (middle - low) before now halves.counted (omega (arith, goes)) (omega (arith, is, goes));
  }
