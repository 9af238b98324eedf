use Rattle.std.proofs.Common.{◌≡◌, ◌<◌, ◌≤◌, length, refl, ap, ◌∙◌, arith}
use Rattle.pdb_modules.specs.CrossModule.{imported_at, imported_length}
use Rattle.pdb_modules.specs.ImportViews.{module_of}
use Rattle.pdb_modules.proofs.Turns.{turn_moves}
use Rattle.pdb_modules.proofs.ImportLemmas.{imported_within, imported_next, imports_refused, imports_whole}
use Rattle.pdb_modules.proofs.imports.read_modules.Goals as goal

pub loop-buffer-preserved : goal.loop-buffer-preserved
loop-buffer-preserved c = record {
  same = c.in-Ok.ensures.1 ∙ c.loop-buffer.invariant.same;
  inside = (turn_moves imported_at imported_length imported_within module_of c.args.part.now c.loop-buffer.buffer c.read_imported.new.buffer c.loop-buffer.invariant.same c.in-Ok.imported c.in-Ok.ensures).1;
  importing = imported_next c.args.part.now c.loop-buffer.buffer c.read_imported.new.buffer c.loop-buffer.invariant.same _ c.loop-buffer.invariant.importing c.in-Ok.imported c.in-Ok.ensures _ c.in_ok-push_imported-in-Ok.ensures.pushed;
}

pub returns-in-Err-clause-modules : goal.returns-in-Err-clause-modules
returns-in-Err-clause-modules c =
    let differ : c.loop-buffer.buffer.place ≡ length c.loop-buffer.buffer.bytes → ⊥ = λ e. (let f = c.loop-buffer-test.ensures.1 e in cc) in
    let below : c.loop-buffer.buffer.place < length c.args.part.now = let i = c.loop-buffer.invariant.inside in omega (arith, differ, ap length c.loop-buffer.invariant.same) in
    imports_refused c.args.part.now c.loop-buffer.buffer c.read_imported.new.buffer c.loop-buffer.invariant.same _ c.loop-buffer.invariant.importing c.in-Err.error below c.in-Err.ensures

pub returns-clause-modules : goal.returns-clause-modules
returns-clause-modules c =
    let ended : c.loop-buffer.buffer.place ≡ length c.loop-buffer.buffer.bytes = c.loop-buffer-test.ensures.0 refl in
    let past : length c.args.part.now ≤ c.loop-buffer.buffer.place = omega (arith, ap length c.loop-buffer.invariant.same) in
    imports_whole c.args.part.now c.loop-buffer.buffer c.loop-buffer.buffer c.loop-buffer.invariant.same _ c.loop-buffer.invariant.importing past
