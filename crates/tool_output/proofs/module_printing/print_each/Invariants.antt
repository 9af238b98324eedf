use Rattle.std.proofs.Common.{◌≡◌, take, true}
use Rattle.pdb.specs.Listed.{listed}
use Rattle.pdb.specs.Source.{Continues}
use Rattle.tool_output.specs.ModuleTexts.{in_file, module_in}
use Rattle.tool_printing.specs.Printing.{Printed, all_shown, shown}
use Rattle.tool_output.proofs.module_printing.print_each.Given as goal

-- the file and the list are the same, and the texts of the indices so far were printed, and no write failed
abbrev pub invariant-loop-k : goal.invariant-loop-k
invariant-loop-k g l = record {
  continues : Continues l.fn.pdb l.pdb;
  kept : listed l.list ≡ listed l.fn.list;
  printed : l.pdb.told ≡ true → Printed (all_shown (λ k. shown (module_in l.format l.several (in_file (g.T.ModuleText.text l.texts) l.fn.pdb.file) l.fn.pdb.file (listed l.fn.list) k)) (take l.k-index l.indices)) (g.P.Printer.state l.fn.out) (g.P.Printer.state l.out);
  failures : (g.P.Printer.state l.out).failures ≡ (g.P.Printer.state l.fn.out).failures;
}
