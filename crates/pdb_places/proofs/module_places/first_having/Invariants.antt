use Rattle.std.proofs.Common.{◌≡◌, length}
use Rattle.std.specs.Prelude.{find}
use Rattle.pdb.specs.DbiViews.{contributions_left}
use Rattle.pdb_places.specs.ModulePlaces.{contributes}
use Rattle.pdb_places.proofs.module_places.first_having.Given as goal

-- none has the place so far
abbrev pub invariant-loop-contribution : goal.invariant-loop-contribution
invariant-loop-contribution l = find (contributes l.fn.place) (contributions_left l.fn.contributions).items ≡ find (contributes l.fn.place) (contributions_left l.contributions).items

abbrev pub decreases-loop-contribution : goal.decreases-loop-contribution
decreases-loop-contribution l = length (contributions_left l.contributions).items
