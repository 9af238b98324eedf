use Rattle.std.proofs.Common.{◌≡◌, ◌-◌, ◌≤◌}
use Rattle.pdb_dbi.specs.DbiViews.{modules_left}
use Rattle.pdb.specs.Answers.{item_at}
use Rattle.pdb.proofs.places.item_at.Given as goal

-- the item that is asked for stands so many items further
abbrev pub invariant-loop : goal.invariant-loop
invariant-loop l = record {
  same : item_at l.fn.place (modules_left l.fn.modules) ≡ item_at (l.fn.place - l.counter) (modules_left l.modules);
  upto : l.counter ≤ l.fn.place;
}
