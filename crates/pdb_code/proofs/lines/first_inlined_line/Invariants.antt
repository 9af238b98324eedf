use Rattle.std.proofs.Common.{◌≡◌, length}
use Rattle.pdb.specs.InlinedViews.{inlined_left}
use Rattle.pdb_code.specs.ModuleCode.{first_line}
use Rattle.pdb_code.proofs.lines.first_inlined_line.Given as goal

-- none came so far
abbrev pub invariant-loop-line : goal.invariant-loop-line
invariant-loop-line l = first_line l.fn.place (inlined_left l.fn.lines).items ≡ first_line l.fn.place (inlined_left l.lines).items

abbrev pub decreases-loop-line : goal.decreases-loop-line
decreases-loop-line l = length (inlined_left l.lines).items
