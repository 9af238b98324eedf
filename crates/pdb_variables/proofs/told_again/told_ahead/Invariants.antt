use Rattle.std.proofs.Common.{◌≡◌, ◌++◌, ◌+◌, ◌≤◌, ◌<◌, ◌^◌, map, length}
use Rattle.pdb.specs.Views.{symbols_left}
use Rattle.pdb_variables.specs.VariableViews.{key_list}
use Rattle.pdb_variables.specs.VariableWalk.{told_ahead}
use Rattle.pdb_variables.proofs.told_again.told_ahead.Given as goal

-- the keys so far, and those of the symbols that are left, are all; no more scopes are open than symbols came
abbrev pub invariant-loop-symbol : goal.invariant-loop-symbol
invariant-loop-symbol l = record {
  keys : map key_list l.keys.items ++ told_ahead l.depth l.within (symbols_left l.symbols).items ≡ told_ahead 0 0 (symbols_left l.fn.symbols).items;
  counted : l.depth + length (symbols_left l.symbols).items ≤ length (symbols_left l.fn.symbols).items;
  inside : l.within + length (symbols_left l.symbols).items ≤ length (symbols_left l.fn.symbols).items;
  few : length (symbols_left l.symbols).items < length (symbols_left l.fn.symbols).items → length (symbols_left l.fn.symbols).items < 2 ^ 64;
}

abbrev pub decreases-loop-symbol : goal.decreases-loop-symbol
decreases-loop-symbol l = length (symbols_left l.symbols).items
