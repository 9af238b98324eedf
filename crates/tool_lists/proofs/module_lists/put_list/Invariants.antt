use Rattle.std.proofs.Common.{◌≡◌, ◌++◌, length}
use Rattle.pdb.specs.DbiViews.{modules_left, modules_steps}
use Rattle.tool_lists.specs.ModuleLists.{module_list_text}
use Rattle.tool_lists.specs.ModuleSizes.{size_in}
use Rattle.tool_lists.proofs.module_lists.put_list.Given as goal

-- what was put, and the lines of what is left, are the lines of all
abbrev pub invariant-loop-listed : goal.invariant-loop-listed
invariant-loop-listed l = record {
  counted : modules_steps l.modules ≡ l.k;
  told : l.out.items ++ module_list_text l.format (size_in l.sizes) l.k (modules_left l.modules) ≡ l.fn.out.items ++ module_list_text l.format (size_in l.fn.sizes) 0 (modules_left l.fn.modules);
}

abbrev pub decreases-loop-listed : goal.decreases-loop-listed
decreases-loop-listed l = length (modules_left l.modules).items
