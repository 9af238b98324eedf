use Rattle.std.proofs.Common.{◌≡◌, ◌+◌, ◌∷◌, drop, get_or}
use Rattle.pdb.proofs.Passing.{continues_then}
use Rattle.pdb_c.proofs.Putting.{drop_next}
use Rattle.pdb_c.proofs.StreamSteps.{rows_next, bytes_next, sizes_next}
use Rattle.pdb_c.proofs.streams.put_streams.Goals as goal

pub loop-place-preserved : goal.loop-place-preserved
loop-place-preserved c =
    let so_far = c.loop-place.invariant in
    let on = c.in_ok-end.ensures in
    let file = c.args.pdb.now.file in
    let numbers = c.args.numbers.now in
    let n = c.loop-place.place in
    let x = get_or numbers n 0 in
    let e : drop n numbers ≡ x ∷ drop (n + 1) numbers = drop_next numbers n 0 c.loop-place-test.true in
    let rows = rw so_far.continues.file at on.rows in
    let room = rw so_far.continues.file at on.room in
    let size = rw so_far.continues.file at on.end in
    record {
      continues = continues_then _ _ _ so_far.continues on.continues;
      steady = (on.continues.steady so_far.steady).0;
      known = on.continues.known so_far.known;
      rows = rows_next file numbers n c.loop-place.end _ x c.loop-place.rows c.put_stream.new.rows _ e rows size so_far.rows;
      room = bytes_next file numbers n c.loop-place.end _ x c.loop-place.room c.put_stream.new.room _ e room size so_far.room;
      size = sizes_next file numbers n c.loop-place.end _ x _ e size so_far.size;
    }
