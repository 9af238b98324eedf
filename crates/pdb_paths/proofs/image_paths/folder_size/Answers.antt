use Rattle.std.proofs.Common.{◌∙◌, arith, rules}
use Rattle.pdb_paths.proofs.FolderSize.{past_other, past_slash, whole}
use Rattle.pdb_paths.proofs.image_paths.folder_size.Goals as goal
use Rattle.pdb_paths.proofs.image_paths.folder_size.Goals.{then-byte-eq47, else-byte-eq47}

pub loop-index-init : goal.loop-index-init
loop-index-init c = record { is = whole c.args.path.now; within = omega arith }

pub loop-index-preserved : goal.loop-index-preserved
loop-index-preserved c =
    let so_far = c.loop-index.invariant in
    let path = c.args.path.now in
    let inside = c.loop-index-test.true in
    elim c.if-byte-eq47.branch [
      | then-byte-eq47 w ↦ record {
        is = so_far.is ∙ rw w.size-is (past_slash path c.loop-index.index c.loop-index.size inside (search rules));
        within = rw w.size-is (omega arith);
      }
      | else-byte-eq47 w ↦ record {
        is = so_far.is ∙ rw w.size-is (past_other path c.loop-index.index c.loop-index.size inside (search rules));
        within = rw w.size-is (omega (arith, so_far.within));
      }
    ]
