use Rattle.std.proofs.Common.{◌≡◌, true, take}
use Rattle.std.specs.List.{list_all}
use Rattle.tool_output.specs.EachFile.{file_shown, is_well_in}
use Rattle.tool_arguments.specs.Operands.{operand_view}
use Rattle.tool_printing.specs.Printing.{Printed, all_shown}
use Rattle.tool_output.proofs.each_file.print_each_file.Given as goal

-- the texts of the files so far were printed, and no write failed
abbrev pub invariant-loop-name : goal.invariant-loop-name
invariant-loop-name g l = record {
  printed : g.F.EachFile.is_known l.files ≡ true → Printed (all_shown (λ name. file_shown (g.F.EachFile.printed l.files (operand_view name))) (take l.name-index l.names)) (g.P.Printer.state l.fn.out) (g.P.Printer.state l.out);
  well : g.F.EachFile.is_known l.files ≡ true → l.all ≡ list_all (λ name. is_well_in (g.F.EachFile.printed l.files (operand_view name))) (take l.name-index l.names);
  failures : (g.P.Printer.state l.out).failures ≡ (g.P.Printer.state l.fn.out).failures;
}
