-- Words of private functions: where a search ends.
use Rattle.std.specs.Prelude.{ℕ, ◌-◌, ◌/◌, ◌<◌, ◌≤◌, List, length}
use Rattle.pdb_places.specs.AddressPlaces.{pair_in}

-- the last pair at or before an address stands in front of number n; there is none where n is 0
pub record IsBehindLast (r : ℕ) (b : List ℕ) (n : ℕ) : Type 0 where
  pub inside : n ≤ length b / 8
  pub upto : 0 < n → (pair_in b (n - 1)).from ≤ r
  pub last : (k : ℕ) → n ≤ k → k < length b / 8 → r < (pair_in b k).from
