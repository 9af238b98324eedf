use Rattle.std.proofs.Common.{◌≡◌, ◌++◌, length}
use Rattle.pdb.specs.Views.{symbols_left}
use Rattle.pdb_list.specs.Texts.{symbols_text}
use Rattle.pdb_list.proofs.symbols.put_symbols.Given as goal

-- what was put, and the lines of the symbols that are left, are the lines of all
abbrev pub invariant-loop-symbol : goal.invariant-loop-symbol
invariant-loop-symbol l = l.out.items ++ symbols_text (symbols_left l.symbols) ≡ l.fn.out.items ++ symbols_text (symbols_left l.fn.symbols)

abbrev pub decreases-loop-symbol : goal.decreases-loop-symbol
decreases-loop-symbol l = length (symbols_left l.symbols).items
