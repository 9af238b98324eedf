use Rattle.std.proofs.Common.{◌≡◌, ◌++◌, length, option_copied, flat_map}
use Rattle.std.specs.Option.{option_map}
use Rattle.pdb.specs.InlinedViews.{inlined_left}
use Rattle.pdb.specs.Qualified.{shown_qualified}
use Rattle.tool_search.specs.WhereTexts.{call_text}
use Rattle.tool_search.proofs.where_texts.put_calls.Given as goal

-- what was put, and the lines of what is left, are the lines of all
abbrev pub invariant-loop-line : goal.invariant-loop-line
invariant-loop-line l = l.out.items ++ flat_map (call_text l.asking (option_copied l.program) (option_map shown_qualified l.name)) (inlined_left l.lines).items ≡ l.fn.out.items ++ flat_map (call_text l.fn.asking (option_copied l.fn.program) (option_map shown_qualified l.fn.name)) (inlined_left l.fn.lines).items

abbrev pub decreases-loop-line : goal.decreases-loop-line
decreases-loop-line l = length (inlined_left l.lines).items
