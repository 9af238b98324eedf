use Rattle.std.proofs.Common.{◌≡◌, length}
use Rattle.pdb_items.specs.ItemViews.{items_left}
use Rattle.tool_printing.specs.Printing.{Before}
use Rattle.tool_types.specs.TypeTexts.{types_left}
use Rattle.tool_types.specs.TypeViews.{types_of}
use Rattle.tool_types.proofs.type_texts.print_left.Given as goal

-- what was printed, and the texts of the types that are left, are those of all; no write failed
abbrev pub invariant-loop-item : goal.invariant-loop-item
invariant-loop-item g l = record {
  printed : Before (g.P.Printer.state l.fn.out) (g.P.Printer.state l.out) (types_left (types_of l.types) (items_left l.items)) (types_left (types_of l.fn.types) (items_left l.fn.items));
  failures : (g.P.Printer.state l.out).failures ≡ (g.P.Printer.state l.fn.out).failures;
}

abbrev pub decreases-loop-item : goal.decreases-loop-item
decreases-loop-item g l = length (items_left l.items).items
