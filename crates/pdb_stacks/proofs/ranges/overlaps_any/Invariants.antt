use Rattle.std.proofs.Common.{◌≡◌, drop}
use Rattle.pdb_stacks.specs.ModuleRanges.{overlaps_any}
use Rattle.pdb_stacks.proofs.ranges.overlaps_any.Given as goal

-- it overlaps one of all where it overlaps one of those that are left
abbrev pub invariant-loop-range : goal.invariant-loop-range
invariant-loop-range l = overlaps_any l.new l.ranges ≡ overlaps_any l.new (drop l.range-index l.ranges)
