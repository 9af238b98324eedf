use Rattle.std.proofs.Common.{None, get_or, take, map, flat_map, append_assoc}
use Rattle.pdb_sample.specs.Sample.{stream_of, padded_stream}
use Rattle.pdb_sample.proofs.SampleFacts.{pieces_more}
use Rattle.pdb_sample.proofs.sample.put_streams.Goals as goal

pub loop-stream-preserved : goal.loop-stream-preserved
loop-stream-preserved c =
    let s = c.args.streams.now in
    let i = c.loop-stream.stream-index in
    rw (c.in_ok-put_padded.ensures, c.loop-stream.invariant, c.bytes_of.ensures, pieces_more padded_stream stream_of s i None c.loop-stream-test.true)
    (append_assoc c.args.out.now.items (flat_map padded_stream (take i (map stream_of s))) (padded_stream (stream_of (get_or s i None))))
