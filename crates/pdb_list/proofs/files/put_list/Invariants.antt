use Rattle.std.proofs.Common.{◌≡◌, ◌++◌, length}
use Rattle.pdb.specs.ModuleViews.{files_left}
use Rattle.pdb_list.specs.ModuleTexts.{file_list_text}
use Rattle.pdb_list.proofs.files.put_list.Given as goal

-- what was put, and the lines of what is left, are the lines of all
abbrev pub invariant-loop-file : goal.invariant-loop-file
invariant-loop-file l = l.out.items ++ file_list_text (files_left l.files) ≡ l.fn.out.items ++ file_list_text (files_left l.fn.files)

abbrev pub decreases-loop-file : goal.decreases-loop-file
decreases-loop-file l = length (files_left l.files).items
