use Rattle.std.proofs.Common.{◌+◌, drop}
use Rattle.pdb_modules.specs.ImportViews.{module_of}
use Rattle.pdb_c.specs.CrossRows.{import_row}
use Rattle.pdb_c.proofs.Putting.{drop_next}
use Rattle.pdb_c.proofs.ListSteps.{item_next}
use Rattle.pdb_c.proofs.imports.put_modules.Goals as goal

pub loop-place-preserved : goal.loop-place-preserved
loop-place-preserved c =
    let modules = c.args.modules.now in
    let n = c.loop-place.place in
    item_next import_row module_of n c.shown.result _ (drop n modules) (drop (n + 1) modules) c.loop-place.records c.put_row.new.room _ (drop_next modules n _ c.loop-place-test.true) c.shown.ensures c.put_row.ensures c.loop-place.invariant
