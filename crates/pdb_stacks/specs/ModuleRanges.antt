-- The ranges of addresses that modules have in a process.
use Rattle.std.specs.Prelude.{ℕ, ◌+◌, List, [], ◌∷◌, ◌++◌, filter, find, length, nat_le, nat_lt, ◌||◌, ◌&&◌, not, Bool, if◌then◌else◌, Option}
use Rattle.std.specs.List.{list_any}
use Rattle.pdb_stacks.specs.declared.ranges.ModuleRange.{ModuleRange}

abbrev pub has : ModuleRange → ℕ → Bool
has r address = nat_le r.start address && nat_lt address (r.start + r.size)

-- one has the other's first address
abbrev pub overlap : ModuleRange → ModuleRange → Bool
overlap r s = has r s.start || has s r.start

-- a range overlaps one of some
abbrev pub overlaps_any : ModuleRange → List ModuleRange → Bool
overlaps_any new rs = list_any (λ old. overlap old new) rs

-- those that it doesn't overlap
abbrev pub others : ModuleRange → List ModuleRange → List ModuleRange
others new rs = filter (λ old. not (overlap old new)) rs

-- a range replaces those that it overlaps; of 4,096 no further one is added
abbrev pub with_range : List ModuleRange → ModuleRange → List ModuleRange
with_range rs new = if nat_lt (length (others new rs)) 4096 then others new rs ++ new ∷ [] else others new rs

abbrev pub range_of : List ModuleRange → ℕ → Option ModuleRange
range_of rs address = find (λ r. has r address) rs
