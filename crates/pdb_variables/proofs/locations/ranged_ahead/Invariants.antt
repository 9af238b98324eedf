use Rattle.std.proofs.Common.{◌≡◌, length}
use Rattle.pdb.specs.Views.{symbols_bytes, symbols_left}
use Rattle.pdb_variables.specs.VariableRecords.{ranged_place}
use Rattle.pdb_variables.specs.VariableWalk.{ranged_with}
use Rattle.pdb_variables.proofs.locations.ranged_ahead.Given as goal

-- the variable is where what is left tells, with the parts that were found
abbrev pub invariant-loop-symbol : goal.invariant-loop-symbol
invariant-loop-symbol l = record {
  place : ranged_place l.fn.place l.fn.base (symbols_left l.fn.symbols).items ≡ ranged_with l.fn.place l.fn.base l.parts.items (symbols_left l.symbols).items;
  bytes : symbols_bytes l.symbols ≡ symbols_bytes l.fn.symbols;
}

abbrev pub decreases-loop-symbol : goal.decreases-loop-symbol
decreases-loop-symbol l = length (symbols_left l.symbols).items
