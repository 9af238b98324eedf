use Rattle.std.proofs.Common.{length}
use Rattle.pdb.specs.InlinedViews.{inlined_left}
use Rattle.pdb_code.proofs.Extents.{IsPassedOutside}
use Rattle.pdb_code.proofs.site.extent_of.Given as goal

-- the records so far cover nothing outside
abbrev pub invariant-loop-line : goal.invariant-loop-line
invariant-loop-line l = IsPassedOutside (inlined_left l.fn.lines).items (inlined_left l.lines).items l.extent

abbrev pub decreases-loop-line : goal.decreases-loop-line
decreases-loop-line l = length (inlined_left l.lines).items
