use Rattle.std.proofs.Common.{◌+◌, ◌∷◌, ◌∙◌, ap, drop, sym}
use Rattle.pdb_c.proofs.Putting.{drop_next}
use Rattle.pdb_c.proofs.ListSteps.{same_next}
use Rattle.pdb_c.proofs.rooms.put_rows.Goals as goal

pub loop-at-preserved : goal.loop-at-preserved
loop-at-preserved g c =
    let rows = c.args.rows.now in
    let n = c.loop-at.at in
    let row = c.index-rows-at.result in
    let next = drop_next rows n row c.loop-at-test.true ∙ ap (λ (x : g.row.T.Denot). x ∷ drop (n + 1) rows) (sym c.index-rows-at.is) in
    same_next n row (drop n rows) (drop (n + 1) rows) c.loop-at.room c.put_row.new.room _ next c.put_row.ensures c.loop-at.invariant
