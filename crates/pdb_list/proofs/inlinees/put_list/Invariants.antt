use Rattle.std.proofs.Common.{◌≡◌, ◌++◌, None, length}
use Rattle.pdb.specs.Views.{symbols_left}
use Rattle.pdb.specs.Inlinees.{inlinee_with}
use Rattle.pdb_list.specs.ModuleTexts.{sites_text}
use Rattle.pdb_list.proofs.inlinees.put_list.Given as goal

-- what was put, and the sites of what is left, by the last procedure so far, are those of all
abbrev pub invariant-loop-symbol : goal.invariant-loop-symbol
invariant-loop-symbol l =
    l.out.items ++ sites_text (inlinee_with l.known) l.parent (symbols_left l.symbols).items (symbols_left l.symbols).fault
    ≡ l.fn.out.items ++ sites_text (inlinee_with l.known) None (symbols_left l.fn.symbols).items (symbols_left l.fn.symbols).fault

abbrev pub decreases-loop-symbol : goal.decreases-loop-symbol
decreases-loop-symbol l = length (symbols_left l.symbols).items
