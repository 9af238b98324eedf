use Rattle.std.proofs.Common.{◌≡◌, ◌++◌, length}
use Rattle.pdb.specs.Views.{symbols_left}
use Rattle.tool_search.specs.FindTexts.{global_lines}
use Rattle.tool_search.proofs.find_texts.put_globals_left.Given as goal

-- what was put, and the lines of what is left, are the lines of all
abbrev pub invariant-loop-symbol : goal.invariant-loop-symbol
invariant-loop-symbol l = l.out.items ++ global_lines l.x86 l.finder (symbols_left l.symbols) ≡ l.fn.out.items ++ global_lines l.fn.x86 l.fn.finder (symbols_left l.fn.symbols)

abbrev pub decreases-loop-symbol : goal.decreases-loop-symbol
decreases-loop-symbol l = length (symbols_left l.symbols).items
