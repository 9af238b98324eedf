use Rattle.std.proofs.Common.{◌∙◌, drop, sym, arith}
use Rattle.pdb_paths.proofs.FileNames.{past_other, past_separator, whole}
use Rattle.pdb_paths.proofs.file_names.file_name.Goals as goal
use Rattle.pdb_paths.proofs.file_names.file_name.Goals.{then-is_separator, else-is_separator}

pub loop-index-init : goal.loop-index-init
loop-index-init c = record { named = sym (whole c.args.path.now); within = omega arith }

pub loop-index-preserved : goal.loop-index-preserved
loop-index-preserved c =
    let so_far = c.loop-index.invariant in
    let path = c.args.path.now in
    let own = drop c.loop-index.start path in
    let inside = c.loop-index-test.true in
    elim c.if-is_separator.branch [
      | then-is_separator w ↦ record {
        named = so_far.named ∙ rw w.start-is (past_separator path own c.loop-index.index inside (sym c.is_separator.ensures ∙ w.if-is_separator.true));
        within = rw w.start-is (omega arith);
      }
      | else-is_separator w ↦ record {
        named = so_far.named ∙ rw w.start-is (past_other path own c.loop-index.index inside (sym c.is_separator.ensures ∙ w.if-is_separator.false));
        within = rw w.start-is (omega (arith, so_far.within));
      }
    ]
