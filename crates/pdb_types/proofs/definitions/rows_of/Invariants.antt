use Rattle.std.proofs.Common.{◌≡◌, ◌≤◌, ◌*◌, ◌++◌, map, length, vec_len}
use Rattle.std.specs.Prelude.{vec_capacity}
use Rattle.pdb_items.specs.ItemViews.{items_left}
use Rattle.pdb_types.specs.FullTypes.{definitions_among}
use Rattle.pdb_types.specs.DefinitionViews.{shown_definition}
use Rattle.pdb_types.proofs.definitions.rows_of.Given as goal

-- the definitions so far, and those among the items that are left, are all
abbrev pub invariant-loop-item : goal.invariant-loop-item
invariant-loop-item l = record { all : map shown_definition l.rows.items ++ definitions_among (items_left l.items).items ≡ definitions_among (items_left l.fn.items).items; room : vec_capacity l.rows ≤ 2 * vec_len l.rows }

abbrev pub decreases-loop-item : goal.decreases-loop-item
decreases-loop-item l = length (items_left l.items).items
