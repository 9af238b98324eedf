use Rattle.std.proofs.Common.{◌≡◌, length, true}
use Rattle.pdb.specs.DbiViews.{modules_left, modules_steps}
use Rattle.pdb.specs.Source.{Continues}
use Rattle.tool_output.specs.ModuleTexts.{in_file, list_text}
use Rattle.tool_printing.specs.Printing.{Before}
use Rattle.tool_output.proofs.module_printing.print_left.Given as goal

-- the file is the same; what was printed, and the texts of the modules that are left, are those of all; no write failed
abbrev pub invariant-loop-module : goal.invariant-loop-module
invariant-loop-module g l = record {
  continues : Continues l.fn.pdb l.pdb;
  counted : modules_steps l.modules ≡ l.k;
  printed : l.pdb.told ≡ true → Before (g.P.Printer.state l.fn.out) (g.P.Printer.state l.out) (list_text l.format l.several (in_file (g.T.ModuleText.text l.texts) l.fn.pdb.file) l.fn.pdb.file l.k (modules_left l.modules)) (list_text l.format l.several (in_file (g.T.ModuleText.text l.texts) l.fn.pdb.file) l.fn.pdb.file 0 (modules_left l.fn.modules));
  failures : (g.P.Printer.state l.out).failures ≡ (g.P.Printer.state l.fn.out).failures;
}

abbrev pub decreases-loop-module : goal.decreases-loop-module
decreases-loop-module g l = length (modules_left l.modules).items
