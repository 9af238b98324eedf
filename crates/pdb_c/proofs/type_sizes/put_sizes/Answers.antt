use Rattle.std.proofs.Common.{◌+◌, drop}
use Rattle.pdb_c.specs.TypeRows.{type_size_row}
use Rattle.pdb_c.proofs.Putting.{drop_next}
use Rattle.pdb_c.proofs.ListSteps.{row_next}
use Rattle.pdb_c.proofs.type_sizes.put_sizes.Goals as goal

pub loop-place-preserved : goal.loop-place-preserved
loop-place-preserved c =
    let indices = c.args.indices.now in
    let n = c.loop-place.place in
    row_next (type_size_row c.args.types.now.items) n c.type_size_row.result _ (drop n indices) (drop (n + 1) indices) c.loop-place.rows c.put_row.new.room _ (drop_next indices n _ c.loop-place-test.true) c.type_size_row.ensures c.put_row.ensures c.loop-place.invariant
