use Rattle.std.proofs.Common.{◌≡◌, ℕ, take}
use Rattle.std.specs.Ordering.{nat_cmp}
use Rattle.std.specs.BTreeMap.{get}
use Rattle.pdb_code.specs.Kept.{least_among}
use Rattle.pdb_code.proofs.leading.least_of.Given as goal

-- the least offsets of as many ranges
abbrev pub invariant-loop-range : goal.invariant-loop-range
invariant-loop-range l = (s : ℕ) → get nat_cmp l.least s ≡ least_among s (take l.range-index l.ranges)
