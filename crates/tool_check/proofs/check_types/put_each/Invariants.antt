use Rattle.std.proofs.Common.{◌≡◌, ◌++◌, flat_map, length}
use Rattle.pdb_items.specs.ItemViews.{items_left}
use Rattle.tool_check.specs.CheckTexts.{type_text}
use Rattle.tool_check.proofs.check_types.put_each.Given as goal

-- what was put, and the lines of what is left, are the lines of all
abbrev pub invariant-loop-item : goal.invariant-loop-item
invariant-loop-item l = l.out.items ++ flat_map (type_text l.subject l.faults) (items_left l.items).items ≡ l.fn.out.items ++ flat_map (type_text l.fn.subject l.fn.faults) (items_left l.fn.items).items

abbrev pub decreases-loop-item : goal.decreases-loop-item
decreases-loop-item l = length (items_left l.items).items
