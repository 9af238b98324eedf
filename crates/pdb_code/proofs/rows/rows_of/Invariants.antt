use Rattle.std.proofs.Common.{◌≡◌, ◌≤◌, ◌-◌, ◌++◌, map, length, filter_map}
use Rattle.std.specs.List.{All}
use Rattle.pdb.specs.SymbolList.{symbols, symbols_from}
use Rattle.pdb.specs.Tiling.{listing}
use Rattle.pdb_code.specs.CodeRecords.{code_left}
use Rattle.pdb_code.specs.ModuleCode.{procedure_of, other_of, managed_of, trampoline_of}
use Rattle.pdb_places.specs.Pieces.{range_parts, code_parts}
use Rattle.pdb_code.specs.Kept.{site_of}
use Rattle.pdb_code.specs.Listed.{shown_procedure, entry_of, IsBounded}
use Rattle.pdb_code.proofs.rows.rows_of.Given as goal

-- the procedures, ranges and sites so far, and those of the symbols that are left, are all
abbrev pub invariant-loop-symbol : goal.invariant-loop-symbol
invariant-loop-symbol l = record {
  procedures : map shown_procedure l.rows.procedures.items ++ filter_map procedure_of (code_left l.symbols l.at) ≡ filter_map procedure_of (symbols_from l.symbols 4).items;
  others : map range_parts l.rows.others.items ++ map code_parts (filter_map other_of (code_left l.symbols l.at)) ≡ map code_parts (filter_map other_of (symbols_from l.symbols 4).items);
  managed : map range_parts l.rows.managed.items ++ map code_parts (filter_map managed_of (code_left l.symbols l.at)) ≡ map code_parts (filter_map managed_of (symbols_from l.symbols 4).items);
  trampolines : map range_parts l.rows.trampolines.items ++ map code_parts (filter_map trampoline_of (code_left l.symbols l.at)) ≡ map code_parts (filter_map trampoline_of (symbols_from l.symbols 4).items);
  sites : map entry_of l.rows.sites.items ++ filter_map site_of (code_left l.symbols l.at) ≡ filter_map site_of (symbols_from l.symbols 4).items;
  bounded : All IsBounded l.rows.sites.items;
  fault : (symbols_from l.symbols 4).fault ≡ (listing symbols l.symbols l.at).fault;
  inside : l.at ≤ length l.symbols;
}

abbrev pub decreases-loop-symbol : goal.decreases-loop-symbol
decreases-loop-symbol l = length l.symbols - l.at
