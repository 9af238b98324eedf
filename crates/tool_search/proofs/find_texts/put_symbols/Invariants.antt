use Rattle.std.proofs.Common.{◌≡◌, ◌++◌, length, None}
use Rattle.std.specs.Option.{option_map}
use Rattle.pdb.specs.Inlinees.{inlinee_with}
use Rattle.pdb.specs.Views.{symbols_left}
use Rattle.pdb_resolve.specs.CallViews.{names_of_calls}
use Rattle.tool_search.specs.FindTexts.{symbols_left_text}
use Rattle.tool_search.specs.Finders.{parent_view}
use Rattle.tool_search.proofs.find_texts.put_symbols.Given as goal

-- what was put, and the lines of what is left behind the last procedure so far, are the lines of all
abbrev pub invariant-loop-symbol : goal.invariant-loop-symbol
invariant-loop-symbol l = l.out.items ++ symbols_left_text l.finder l.k (names_of_calls l.names) (inlinee_with l.known) (option_map parent_view l.parent) (symbols_left l.symbols) ≡ l.fn.out.items ++ symbols_left_text l.fn.finder l.fn.k (names_of_calls l.fn.names) (inlinee_with l.fn.known) None (symbols_left l.fn.symbols)

abbrev pub decreases-loop-symbol : goal.decreases-loop-symbol
decreases-loop-symbol l = length (symbols_left l.symbols).items
