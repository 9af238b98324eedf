-- What a search by halving finds among the numbers of rows.
use Rattle.std.specs.Prelude.{ℕ, ◌+◌, ◌<◌, ◌≤◌, Option, Some, None}

-- row k, of the rows from `first` on and before `behind`, begins at or before `at`; the next one, where there is one, behind it
pub record Has (key : ℕ → ℕ) (first behind at k : ℕ) : Type 0 where
  pub from : first ≤ k
  pub there : k < behind
  pub begins : key k ≤ at
  pub next : k + 1 < behind → at < key (k + 1)

-- such a row, whatever the numbers are; none only where the first row begins behind `at`, or there is none
abbrev pub Finds : (ℕ → ℕ) → ℕ → ℕ → ℕ → Option ℕ → Type 0
Finds key first behind at None = first < behind → at < key first
Finds key first behind at (Some k) = Has key first behind at k

-- the numbers of the rows from `first` on and before `behind` rise
pub record Rises (key : ℕ → ℕ) (first behind : ℕ) : Type 0 where
  pub each : (j k : ℕ) → first ≤ j → j < k → k < behind → key j < key k

-- row k is the last of these rows that begins at or before `at`
pub record IsLastUpto (key : ℕ → ℕ) (first behind at k : ℕ) : Type 0 where
  pub from : first ≤ k
  pub there : k < behind
  pub begins : key k ≤ at
  pub after : (j : ℕ) → k < j → j < behind → at < key j

-- that row, or none, since each begins behind `at`
abbrev pub FindsLast : (ℕ → ℕ) → ℕ → ℕ → ℕ → Option ℕ → Type 0
FindsLast key first behind at None = (j : ℕ) → first ≤ j → j < behind → at < key j
FindsLast key first behind at (Some k) = IsLastUpto key first behind at k
