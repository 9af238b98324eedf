use Rattle.std.proofs.Common.{◌≡◌, ◌+◌, ◌≤◌, ◌<◌, ◌^◌, length}
use Rattle.pdb.specs.Views.{symbols_bytes, symbols_left}
use Rattle.pdb_variables.specs.VariableWalk.{bases_ahead}
use Rattle.pdb_variables.proofs.frame_bases.bases_ahead.Given as goal

-- what is looked for is found in what is left; no more scopes are open than symbols came
abbrev pub invariant-loop-symbol : goal.invariant-loop-symbol
invariant-loop-symbol l = record {
  bytes : symbols_bytes l.symbols ≡ symbols_bytes l.fn.symbols;
  searching : bases_ahead 0 (symbols_left l.fn.symbols).items ≡ bases_ahead l.depth (symbols_left l.symbols).items;
  counted : l.depth + length (symbols_left l.symbols).items ≤ length (symbols_left l.fn.symbols).items;
  few : length (symbols_left l.symbols).items < length (symbols_left l.fn.symbols).items → length (symbols_left l.fn.symbols).items < 2 ^ 64;
}

abbrev pub decreases-loop-symbol : goal.decreases-loop-symbol
decreases-loop-symbol l = length (symbols_left l.symbols).items
