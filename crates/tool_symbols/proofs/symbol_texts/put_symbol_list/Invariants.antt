use Rattle.std.proofs.Common.{◌≡◌, ◌++◌, ◌+◌, ◌≤◌, ◌<◌, ◌^◌, length}
use Rattle.pdb.specs.Views.{symbols_left}
use Rattle.tool_types.specs.KeptViews.{kept_names}
use Rattle.tool_types.specs.LineViews.{names_of_lines}
use Rattle.tool_symbols.specs.SymbolTexts.{symbol_list_text}
use Rattle.tool_symbols.proofs.symbol_texts.put_symbol_list.Given as goal

-- what was put, and the lines of what is left, are the lines of all; no deeper than symbols came
abbrev pub invariant-loop-symbol : goal.invariant-loop-symbol
invariant-loop-symbol l = record {
  names : kept_names l.kept ≡ names_of_lines l.fn.names;
  told : l.out.items ++ symbol_list_text (kept_names l.kept) l.machine l.depth (symbols_left l.symbols) ≡ l.fn.out.items ++ symbol_list_text (names_of_lines l.fn.names) l.machine 0 (symbols_left l.fn.symbols);
  counted : l.depth + length (symbols_left l.symbols).items ≤ length (symbols_left l.fn.symbols).items;
  few : length (symbols_left l.symbols).items < length (symbols_left l.fn.symbols).items → length (symbols_left l.fn.symbols).items < 2 ^ 64;
}

abbrev pub decreases-loop-symbol : goal.decreases-loop-symbol
decreases-loop-symbol l = length (symbols_left l.symbols).items
