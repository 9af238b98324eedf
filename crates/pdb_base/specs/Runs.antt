-- Runs of bytes that are no zeros.
use Rattle.std.specs.Prelude.{◌≡◌, ℕ, ◌+◌, ◌<◌, ◌≤◌, ◌==◌, true, false, List, slice_index}

-- none of the bytes from p up to q is a zero
abbrev pub NoZeros : List ℕ → ℕ → ℕ → Type 0
NoZeros b p q = (k : ℕ) → p ≤ k → k < q → (slice_index b k == 0) ≡ false

-- of the n bytes at p the first `run` are no zeros, and the next one of the n is
pub record IsRun (b : List ℕ) (p n run : ℕ) : Type 0 where
  pub most : run ≤ n
  pub before : NoZeros b p (p + run)
  pub stops : run < n → (slice_index b (p + run) == 0) ≡ true
