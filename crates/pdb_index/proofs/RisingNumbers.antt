-- Numbers that rise from each to the next rise.
use Rattle.std.proofs.Common.{◌≡◌, ◌⊎◌, inl, inr, ℕ, ◌+◌, ◌-◌, ◌<◌, ◌≤◌, subst, arith}
use Rattle.std.proofs.lemmas.Bool.{cases_lt}
use Rattle.pdb_index.specs.Searches.{Rises}

pub one : (key : ℕ → ℕ) (first : ℕ) → Rises key first (first + 1)
one key first = record { each = λ j k from lt there. absurd (omega (arith, from, lt, there)) }

module _ (key : ℕ → ℕ) (first row : ℕ) (some : first < row) (rise : Rises key first row) (next : key (row - 1) < key row) where
  above : (j k : ℕ) → first ≤ j → j < k → k < row + 1 → (k < row) ⊎ (row ≤ k) → (j < row - 1) ⊎ (row - 1 ≤ j) → key j < key k
  above j k from lt there (inl l) h = rise.each j k from lt l
  above j k from lt there (inr l) (inl h) =
      let e : row ≡ k = omega (arith, there, l) in
      let before = rise.each j (row - 1) from h (omega (arith, some)) in
      subst (λ (x : ℕ). key j < key x) e (omega (arith, before, next))
  above j k from lt there (inr l) (inr h) =
      let e : row ≡ k = omega (arith, there, l) in
      let d : row - 1 ≡ j = omega (arith, h, lt, e) in
      subst (λ (x : ℕ). key j < key x) e (subst (λ (x : ℕ). key x < key row) d next)

  pub more : Rises key first (row + 1)
  more = record { each = λ j k from lt there. above j k from lt there (cases_lt k row) (cases_lt j (row - 1)) }

-- where numbers rise, none is above the last
pub last : (key : ℕ → ℕ) (n k : ℕ) → Rises key 0 n → k < n → key k ≤ key (n - 1)
last key n k rise lt = by_place (cases_lt k (n - 1))
  where
    by_place : (k < n - 1) ⊎ (n - 1 ≤ k) → key k ≤ key (n - 1)
    by_place (inl h) = let below = rise.each k (n - 1) (omega arith) h (omega (arith, lt)) in omega (arith, below)
    by_place (inr h) = let e : k ≡ n - 1 = omega (arith, lt, h) in rw e (omega arith)
