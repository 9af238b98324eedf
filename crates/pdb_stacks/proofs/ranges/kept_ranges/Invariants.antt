use Rattle.std.proofs.Common.{◌≡◌, take}
use Rattle.pdb_stacks.specs.ModuleRanges.{others}
use Rattle.pdb_stacks.proofs.ranges.kept_ranges.Given as goal

-- those so far that aren't overlapped were kept
abbrev pub invariant-loop-range : goal.invariant-loop-range
invariant-loop-range l = l.kept.items ≡ others l.new (take l.range-index l.ranges)
