use Rattle.std.proofs.Common.{◌∙◌, arith}
use Rattle.pdb_modules.specs.CrossModule.{imported_at, imported_length}
use Rattle.pdb_modules.specs.ImportViews.{module_of}
use Rattle.pdb_modules.proofs.Turns.{turn_moves}
use Rattle.pdb_modules.proofs.ImportLemmas.{imported_within}
use Rattle.pdb_modules.proofs.imports.count_modules.Goals as goal

pub loop-buffer-preserved : goal.loop-buffer-preserved
loop-buffer-preserved c = record {
  same = c.in-Ok.ensures.1 ∙ c.loop-buffer.invariant.same;
  inside = (turn_moves imported_at imported_length imported_within module_of c.args.part.now c.loop-buffer.buffer c.read_imported.new.buffer c.loop-buffer.invariant.same c.in-Ok._imported c.in-Ok.ensures).1;
  few = omega (arith, c.loop-buffer.invariant.few, c.in-Ok.ensures.2);
}
