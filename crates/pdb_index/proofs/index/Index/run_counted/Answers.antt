use Rattle.std.proofs.Common.{◌≡◌, Some, None, refl}
use Rattle.pdb_index.proofs.index.Index.run_counted.Goals as goal

pub returns-in-Some-clause-run : goal.returns-in-Some-clause-run
returns-in-Some-clause-run c =
    let place : c.find_place.result ≡ Some (Some c.in-Some.place) = rw c.in-Some.is at c.in_ok-place.ensures.ok_part in
    let run = c.ok_or-in-Some.ensures.ok_part in
    (Some (Some c.in-Some.place), rw (← c.args.self.now.laid_out, ← place) c.find_place.ensures.place, rw (← c.args.self.now.laid_out, ← run) c.run_at.ensures.run)

pub returns-in-None-clause-run : goal.returns-in-None-clause-run
returns-in-None-clause-run c =
    let place : c.find_place.result ≡ Some None = rw c.in-None.is at c.in_ok-place.ensures.ok_part in
    (Some None, rw (← c.args.self.now.laid_out, ← place) c.find_place.ensures.place, refl)
