use Rattle.std.proofs.Common.{◌≡◌, drop}
use Rattle.pdb_stacks.specs.ModuleRanges.{range_of}
use Rattle.pdb_stacks.proofs.ranges.range_of.Given as goal

-- the range is among those that are left
abbrev pub invariant-loop-range : goal.invariant-loop-range
invariant-loop-range l = range_of l.ranges l.address ≡ range_of (drop l.range-index l.ranges) l.address
