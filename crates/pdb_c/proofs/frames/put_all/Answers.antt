use Rattle.std.proofs.Common.{◌+◌, drop}
use Rattle.pdb.proofs.Passing.{continues_then}
use Rattle.pdb_c.proofs.Putting.{drop_next}
use Rattle.pdb_c.proofs.FrameSteps.{all_rows_next, all_counts_next, all_names_next, all_sizes_next}
use Rattle.pdb_c.proofs.frames.put_all.Goals as goal

pub loop-address-preserved : goal.loop-address-preserved
loop-address-preserved c =
    let so_far = c.loop-address.invariant in
    let on = c.in_ok-put_asked.ensures in
    let file = c.args.resolver.now.file in
    let asked = c.args.asked.now in
    let n = c.loop-address.address in
    let rows = rw so_far.continues.file at on.rows in
    let count = rw so_far.continues.file at on.count in
    let names = rw so_far.continues.file at on.names in
    let size = rw so_far.continues.file at on.size in
    record {
      continues = continues_then _ _ _ so_far.continues on.continues;
      known = on.continues.known so_far.known;
      rows = all_rows_next file n (drop n asked) (drop (n + 1) asked) c.loop-address.count c.put_asked.new.count c.loop-address.size c.put_asked.new.size _ c.loop-address.rows c.put_asked.new.rows _ (drop_next asked n _ c.loop-address-test.true) rows count size so_far.rows;
      count = all_counts_next file n (drop n asked) (drop (n + 1) asked) c.loop-address.count c.put_asked.new.count c.loop-address.size c.put_asked.new.size _ _ (drop_next asked n _ c.loop-address-test.true) count size so_far.count;
      names = all_names_next file (drop n asked) (drop (n + 1) asked) c.loop-address.size c.put_asked.new.size _ c.loop-address.names c.put_asked.new.names _ (drop_next asked n _ c.loop-address-test.true) names size so_far.names;
      size = all_sizes_next file (drop n asked) (drop (n + 1) asked) c.loop-address.size c.put_asked.new.size _ _ (drop_next asked n _ c.loop-address-test.true) size so_far.size;
    }
