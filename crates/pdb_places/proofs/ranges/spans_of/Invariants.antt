use Rattle.std.proofs.Common.{take}
use Rattle.pdb_places.specs.PaintedRanges.{AreSpansOf}
use Rattle.pdb_places.proofs.ranges.spans_of.Given as goal

-- those so far have their spans
abbrev pub invariant-loop-range : goal.invariant-loop-range
invariant-loop-range l = AreSpansOf (take l.range-index l.ranges) l.spans.items
