-- The exports of a module, as they are kept.
use Rattle.std.specs.Prelude.{◌≡◌, ℕ, List, Option, Some, None}
use Rattle.std.specs.Ordering.{nat_cmp}
use Rattle.std.specs.BTreeMap.{BTreeMap, get}
use Rattle.pdb.specs.CrossModule.{global_of, Increases}

-- the global number of the first export of each local one
abbrev pub AreFirstOf : List (ℕ × ℕ) → BTreeMap ℕ ℕ → Type 0
AreFirstOf pairs first = (local : ℕ) → get nat_cmp first local ≡ global_of local pairs

-- each is found by halving: among exports whose local numbers increase, or among the first ones
abbrev pub AreHalved : List (ℕ × ℕ) → Option (BTreeMap ℕ ℕ) → Type 0
AreHalved pairs None = Increases pairs
AreHalved pairs (Some first) = AreFirstOf pairs first
