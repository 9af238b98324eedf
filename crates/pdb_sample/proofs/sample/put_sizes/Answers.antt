use Rattle.std.proofs.Common.{None, get_or, take, map, flat_map, append_assoc}
use Rattle.pdb_sample.specs.Sample.{stream_of, size_entry, is_too_long}
use Rattle.pdb_sample.proofs.SampleFacts.{pieces_more, none_at}
use Rattle.pdb_sample.proofs.sample.put_sizes.Goals as goal

pub size_told-requires : goal.size_told-requires
size_told-requires c = none_at is_too_long stream_of c.args.streams.now c.loop-stream.stream-index None c.loop-stream-test.true c.requires

pub loop-stream-preserved : goal.loop-stream-preserved
loop-stream-preserved c =
    let s = c.args.streams.now in
    let i = c.loop-stream.stream-index in
    rw (c.in_ok-put_number.ensures, c.loop-stream.invariant, c.size_told.ensures, pieces_more size_entry stream_of s i None c.loop-stream-test.true)
    (append_assoc c.args.out.now.items (flat_map size_entry (take i (map stream_of s))) (size_entry (stream_of (get_or s i None))))
