use Rattle.std.proofs.Common.{◌≡◌, ◌++◌, map, length}
use Rattle.pdb.specs.Views.{symbols_left}
use Rattle.pdb_places.specs.PublicNames.{publics_among}
use Rattle.pdb_places.specs.PublicTable.{place_parts, public_parts}
use Rattle.pdb_places.proofs.public_table.rows_of.Given as goal

-- the rows so far, and those of the symbols that are left, are all
abbrev pub invariant-loop-symbol : goal.invariant-loop-symbol
invariant-loop-symbol l = map place_parts l.rows.items ++ map public_parts (publics_among (symbols_left l.symbols).items) ≡ map public_parts (publics_among (symbols_left l.fn.symbols).items)

abbrev pub decreases-loop-symbol : goal.decreases-loop-symbol
decreases-loop-symbol l = length (symbols_left l.symbols).items
