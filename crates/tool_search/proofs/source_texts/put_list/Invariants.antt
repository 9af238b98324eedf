use Rattle.std.proofs.Common.{◌≡◌, ◌++◌, length, option_copied}
use Rattle.pdb.specs.ModuleViews.{files_left}
use Rattle.tool_search.specs.SourceTexts.{source_lines}
use Rattle.tool_search.proofs.source_texts.put_list.Given as goal

-- what was put, and the lines of what is left, are the lines of all
abbrev pub invariant-loop-file : goal.invariant-loop-file
invariant-loop-file l = l.out.items ++ source_lines l.format l.k (option_copied l.strings) (files_left l.files) ≡ l.fn.out.items ++ source_lines l.fn.format l.fn.k (option_copied l.fn.strings) (files_left l.fn.files)

abbrev pub decreases-loop-file : goal.decreases-loop-file
decreases-loop-file l = length (files_left l.files).items
