use Rattle.std.proofs.Common.{◌≡◌, ◌++◌, length}
use Rattle.pdb.specs.ModuleViews.{exports_left}
use Rattle.pdb_list.specs.ModuleTexts.{export_list_text}
use Rattle.pdb_list.proofs.cross_module.put_list.Given as goal

-- what was put, and the lines of what is left, are the lines of all
abbrev pub invariant-loop-export : goal.invariant-loop-export
invariant-loop-export l = l.out.items ++ export_list_text (exports_left l.exports) ≡ l.fn.out.items ++ export_list_text (exports_left l.fn.exports)

abbrev pub decreases-loop-export : goal.decreases-loop-export
decreases-loop-export l = length (exports_left l.exports).items
