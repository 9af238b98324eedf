use Rattle.std.proofs.Common.{◌+◌, drop}
use Rattle.pdb_c.specs.TypeRows.{type_text}
use Rattle.pdb_c.proofs.Putting.{drop_next}
use Rattle.pdb_c.proofs.TypeSteps.{rows_next, bytes_next}
use Rattle.pdb_c.proofs.type_names.add_all.Goals as goal

pub loop-index-preserved : goal.loop-index-preserved
loop-index-preserved c =
    let so_far = c.loop-index.invariant in
    let on = c.in_ok-add.ensures in
    let indices = c.args.indices.now in
    let n = c.loop-index.index-index in
    let text = type_text c.args.types.now.items in
    let here = drop_next indices n _ c.loop-index-test.true in
    record {
      rows = rows_next text (drop n indices) (drop (n + 1) indices) _ c.loop-index.rows.items c.add.new.rows.items _ c.loop-index.bytes.items c.add.new.bytes.items here on.rows on.bytes so_far.rows;
      bytes = bytes_next text (drop n indices) (drop (n + 1) indices) _ c.loop-index.bytes.items c.add.new.bytes.items _ here on.bytes so_far.bytes;
    }
