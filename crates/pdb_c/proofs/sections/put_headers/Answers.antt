use Rattle.std.proofs.Common.{◌+◌, drop}
use Rattle.pdb_c.specs.SectionRows.{section_row}
use Rattle.pdb_c.proofs.Putting.{drop_next}
use Rattle.pdb_c.proofs.ListSteps.{row_next}
use Rattle.pdb_c.proofs.sections.put_headers.Goals as goal

pub loop-place-preserved : goal.loop-place-preserved
loop-place-preserved c =
    let headers = c.args.headers.now in
    let n = c.loop-place.place in
    row_next section_row n c.shown.result _ (drop n headers) (drop (n + 1) headers) c.loop-place.records c.put_row.new.room _ (drop_next headers n _ c.loop-place-test.true) c.shown.ensures c.put_row.ensures c.loop-place.invariant
