use Rattle.std.proofs.Common.{◌≡◌, take}
use Rattle.tool_printing.specs.Printing.{Printed, all_shown, shown}
use Rattle.tool_types.specs.TypeTexts.{index_lines}
use Rattle.tool_types.specs.TypeViews.{types_of}
use Rattle.tool_types.proofs.type_texts.print_each.Given as goal

-- the texts of the indices so far were printed, and no write failed
abbrev pub invariant-loop-index : goal.invariant-loop-index
invariant-loop-index g l = record {
  printed : Printed (all_shown (λ i. shown (index_lines (types_of l.fn.types) i)) (take l.index-index l.indices)) (g.P.Printer.state l.fn.out) (g.P.Printer.state l.out);
  failures : (g.P.Printer.state l.out).failures ≡ (g.P.Printer.state l.fn.out).failures;
}
