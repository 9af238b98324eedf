use Rattle.std.proofs.Common.{◌≡◌, ◌+◌, ◌≤◌, length}
use Rattle.pdb.specs.DbiViews.{contributions_left}
use Rattle.pdb_places.specs.ModulePlaces.{module_among}
use Rattle.pdb_places.proofs.module_places.look_through.Given as goal

-- none has the place so far
abbrev pub invariant-loop-contribution : goal.invariant-loop-contribution
invariant-loop-contribution l = record {
  searching : module_among l.fn.place (contributions_left l.fn.contributions).items ≡ module_among l.fn.place (contributions_left l.contributions).items;
  counted : l.steps.count + length (contributions_left l.contributions).items ≤ l.fn.steps.count + length (contributions_left l.fn.contributions).items;
}

abbrev pub decreases-loop-contribution : goal.decreases-loop-contribution
decreases-loop-contribution l = length (contributions_left l.contributions).items
