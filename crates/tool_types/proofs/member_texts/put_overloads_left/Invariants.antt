use Rattle.std.proofs.Common.{◌≡◌, ◌++◌, length}
use Rattle.pdb_types.specs.OverloadViews.{overloads_left}
use Rattle.tool_types.specs.MemberTexts.{overloads_left_text}
use Rattle.tool_types.specs.TypeViews.{types_of}
use Rattle.tool_types.proofs.member_texts.put_overloads_left.Given as goal

-- what was put, and the lines of what is left, are the lines of all
abbrev pub invariant-loop-m : goal.invariant-loop-m
invariant-loop-m l = l.out.items ++ overloads_left_text (types_of l.types) l.name (overloads_left l.methods) ≡ l.fn.out.items ++ overloads_left_text (types_of l.fn.types) l.fn.name (overloads_left l.fn.methods)

abbrev pub decreases-loop-m : goal.decreases-loop-m
decreases-loop-m l = length (overloads_left l.methods).items
