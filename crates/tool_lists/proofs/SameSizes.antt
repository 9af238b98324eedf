-- Sizes that are the same for each module.
use Rattle.std.proofs.Common.{◌≡◌, ℕ}

pub same_sizes : (f g : ℕ → ℕ) → ((k : ℕ) → f k ≡ g k) → f ≡ g
same_sizes f g h = λ i k. h k i
