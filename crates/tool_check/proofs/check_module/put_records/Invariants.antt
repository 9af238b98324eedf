use Rattle.std.proofs.Common.{◌≡◌, ◌++◌, flat_map, length}
use Rattle.pdb.specs.Views.{symbols_left}
use Rattle.tool_check.specs.CheckTexts.{symbol_text}
use Rattle.tool_check.proofs.check_module.put_records.Given as goal

-- what was put, and the lines of what is left, are the lines of all
abbrev pub invariant-loop-symbol : goal.invariant-loop-symbol
invariant-loop-symbol l = l.out.items ++ flat_map (symbol_text l.subject) (symbols_left l.symbols).items ≡ l.fn.out.items ++ flat_map (symbol_text l.fn.subject) (symbols_left l.fn.symbols).items

abbrev pub decreases-loop-symbol : goal.decreases-loop-symbol
decreases-loop-symbol l = length (symbols_left l.symbols).items
