use Rattle.std.proofs.Common.{◌≡◌, ◌+◌, ◌≤◌, ◌<◌, ◌^◌, length}
use Rattle.pdb.specs.Views.{symbols_left, symbols_bytes}
use Rattle.tool_symbols.specs.ScopeFrames.{first_bases}
use Rattle.tool_symbols.proofs.scope_frames.bases_ahead.Given as goal

-- what is looked for is found in what is left; no more scopes are open than symbols came
abbrev pub invariant-loop-symbol : goal.invariant-loop-symbol
invariant-loop-symbol l = record {
  searching : first_bases 0 (symbols_left l.fn.symbols).items ≡ first_bases l.inner (symbols_left l.symbols).items;
  bytes : symbols_bytes l.symbols ≡ symbols_bytes l.fn.symbols;
  counted : l.inner + length (symbols_left l.symbols).items ≤ length (symbols_left l.fn.symbols).items;
  few : length (symbols_left l.symbols).items < length (symbols_left l.fn.symbols).items → length (symbols_left l.fn.symbols).items < 2 ^ 64;
}

abbrev pub decreases-loop-symbol : goal.decreases-loop-symbol
decreases-loop-symbol l = length (symbols_left l.symbols).items
