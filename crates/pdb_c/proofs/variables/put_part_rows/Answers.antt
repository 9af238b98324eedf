use Rattle.std.proofs.Common.{◌+◌, drop, length}
use Rattle.pdb_variables.specs.VariableViews.{shown_variable}
use Rattle.pdb_c.specs.VariableRows.{part_row}
use Rattle.pdb_c.proofs.Putting.{drop_next}
use Rattle.pdb_c.proofs.VariableSteps.{parts_counted, parts_next}
use Rattle.pdb_c.proofs.variables.put_part_rows.Goals as goal

pub loop-part-preserved : goal.loop-part-preserved
loop-part-preserved c =
    let so_far = c.loop-part.invariant in
    let on = c.in_ok-put_variable_row.ensures in
    let parts = c.args.parts.now in
    let n = c.loop-part.part-index in
    let next = drop_next parts n _ c.loop-part-test.true in
    let rows = rw (c.variable_row-row.ensures, c.storage_numbers-stored.ensures) at on.rows in
    let row = part_row c.args.address c.args.name_at (shown_variable c.args.variable.now) (length parts) in
    record {
      rows = parts_next row (drop n parts) (drop (n + 1) parts) c.loop-part.count c.put_variable_row.new.count _ c.loop-part.rows c.put_variable_row.new.rows _ next rows on.count so_far.rows;
      count = parts_counted (drop n parts) (drop (n + 1) parts) c.loop-part.count c.put_variable_row.new.count _ _ next on.count so_far.count;
    }
