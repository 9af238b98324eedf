use Rattle.std.proofs.Common.{◌≡◌, ◌+◌, ◌≤◌, length}
use Rattle.std.specs.Option.{option_map}
use Rattle.pdb.specs.Views.{symbols_left}
use Rattle.pdb_places.specs.PublicNames.{publics_among, nearer, public_before}
use Rattle.pdb_places.specs.PublicTable.{shown_public}
use Rattle.pdb_places.proofs.publics.nearest.Given as goal

-- the nearest so far and that of the symbols that are left are the nearest of all
abbrev pub invariant-loop-symbol : goal.invariant-loop-symbol
invariant-loop-symbol l = record {
  nearest : nearer (option_map shown_public l.best) (public_before l.fn.place (publics_among (symbols_left l.symbols).items)) ≡ public_before l.fn.place (publics_among (symbols_left l.fn.symbols).items);
  counted : l.steps.count + length (publics_among (symbols_left l.symbols).items) ≤ l.fn.steps.count + length (publics_among (symbols_left l.fn.symbols).items);
}

abbrev pub decreases-loop-symbol : goal.decreases-loop-symbol
decreases-loop-symbol l = length (symbols_left l.symbols).items
