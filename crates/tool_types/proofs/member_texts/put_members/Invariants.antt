use Rattle.std.proofs.Common.{◌≡◌, ◌++◌, length}
use Rattle.pdb_types.specs.MemberLists.{members_of}
use Rattle.pdb_types.specs.MemberListViews.{members_left}
use Rattle.tool_types.specs.MemberTexts.{members_text}
use Rattle.tool_types.specs.TypeViews.{types_of}
use Rattle.tool_types.proofs.member_texts.put_members.Given as goal

-- what was put, and the lines of what is left, are the lines of all
abbrev pub invariant-loop-member : goal.invariant-loop-member
invariant-loop-member l = l.out.items ++ members_text (types_of l.types) l.underlying (members_left l.members) ≡ l.fn.out.items ++ members_text (types_of l.fn.types) l.fn.underlying (members_of (types_of l.fn.types).items l.fn.list.0)

abbrev pub decreases-loop-member : goal.decreases-loop-member
decreases-loop-member l = length (members_left l.members).items
