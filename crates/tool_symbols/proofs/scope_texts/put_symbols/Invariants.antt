use Rattle.std.proofs.Common.{◌≡◌, ◌++◌, ◌+◌, ◌≤◌, ◌<◌, ◌^◌, [], None, length, reverse}
use Rattle.pdb.specs.Views.{symbols_left}
use Rattle.tool_types.specs.KeptViews.{kept_names}
use Rattle.tool_types.specs.LineViews.{names_of_lines}
use Rattle.tool_symbols.specs.ScopeTexts.{scopes_left}
use Rattle.tool_symbols.proofs.scope_texts.put_symbols.Given as goal

-- piece: depth_of_scopes
-- what was put, and the lines of what is left, are the lines of all; no more scopes are open than symbols came
abbrev pub invariant-loop-symbol : goal.invariant-loop-symbol
invariant-loop-symbol l = record {
  names : kept_names l.kept ≡ names_of_lines l.fn.names;
  told : l.out.items ++ scopes_left (kept_names l.kept) l.machine (reverse l.around.items) l.variable (symbols_left l.symbols) ≡ l.fn.out.items ++ scopes_left (names_of_lines l.fn.names) l.machine [] None (symbols_left l.fn.symbols);
  counted : length l.around.items + length (symbols_left l.symbols).items ≤ length (symbols_left l.fn.symbols).items;
  few : length (symbols_left l.symbols).items < length (symbols_left l.fn.symbols).items → length (symbols_left l.fn.symbols).items < 2 ^ 64;
}

-- end

abbrev pub decreases-loop-symbol : goal.decreases-loop-symbol
decreases-loop-symbol l = length (symbols_left l.symbols).items
