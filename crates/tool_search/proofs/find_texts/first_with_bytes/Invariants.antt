use Rattle.std.proofs.Common.{◌≡◌, length, find}
use Rattle.pdb.specs.InlinedViews.{inlined_left}
use Rattle.tool_search.specs.FindTexts.{has_bytes}
use Rattle.tool_search.proofs.find_texts.first_with_bytes.Given as goal

-- the first of those that are left is the first of all
abbrev pub invariant-loop-line : goal.invariant-loop-line
invariant-loop-line l = find has_bytes (inlined_left l.lines).items ≡ find has_bytes (inlined_left l.fn.lines).items

abbrev pub decreases-loop-line : goal.decreases-loop-line
decreases-loop-line l = length (inlined_left l.lines).items
