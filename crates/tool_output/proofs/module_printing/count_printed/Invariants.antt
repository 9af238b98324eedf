use Rattle.std.proofs.Common.{◌≡◌, ◌+◌, ◌≤◌, length}
use Rattle.std.specs.Prelude.{count_by}
use Rattle.pdb.specs.DbiViews.{modules_left, modules_steps}
use Rattle.tool_output.specs.ModuleTexts.{has_stream}
use Rattle.tool_output.proofs.module_printing.count_printed.Given as goal

-- those so far, and those that are left, are all
abbrev pub invariant-loop-module : goal.invariant-loop-module
invariant-loop-module l = record {
  counted : l.count + count_by has_stream (modules_left l.modules).items ≡ count_by has_stream (modules_left l.fn.modules).items;
  few : l.count ≤ modules_steps l.modules;
}

abbrev pub decreases-loop-module : goal.decreases-loop-module
decreases-loop-module l = length (modules_left l.modules).items
