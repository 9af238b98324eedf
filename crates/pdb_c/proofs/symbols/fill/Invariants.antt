use Rattle.std.proofs.Common.{◌≡◌, ◌≤◌, ◌-◌, ◌++◌, length, map, take, drop}
use Rattle.std.specs.List.{All}
use Rattle.pdb.specs.SymbolList.{symbols_from}
use Rattle.pdb.specs.Views.{symbols_left, symbols_bytes}
use Rattle.pdb_c.specs.Symbols.{symbol_entry, SaysItself}
use Rattle.pdb_c.proofs.symbols.fill.Given as goal

-- the first rows tell the first symbols, and the others are left
abbrev pub invariant-loop-count : goal.invariant-loop-count
invariant-loop-count l = record {
  size : length l.records ≡ length l.fn.records;
  inside : l.count ≤ length l.records;
  bytes : symbols_bytes l.symbols ≡ symbols_bytes l.fn.symbols;
  items : (symbols_left l.fn.symbols).items ≡ map symbol_entry (take l.count l.records) ++ (symbols_left l.symbols).items;
  fault : (symbols_left l.fn.symbols).fault ≡ (symbols_left l.symbols).fault;
  place : symbols_left l.symbols ≡ symbols_from (symbols_bytes l.symbols) l.at;
  says : All SaysItself (take l.count l.records);
  others : drop l.count l.records ≡ drop l.count l.fn.records;
}

abbrev pub decreases-loop-count : goal.decreases-loop-count
decreases-loop-count l = length l.fn.records - l.count
