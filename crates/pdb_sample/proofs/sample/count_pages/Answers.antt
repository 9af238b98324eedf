use Rattle.std.proofs.Common.{◌≡◌, None, length, get_or, map, arith, ap, sym, ◌∙◌, ◌<◌, refl}
use Rattle.std.proofs.lemmas.List.{get_or-map, length-map}
use Rattle.std.proofs.lemmas.Bool.Decides.{nat_tests}
use Rattle.pdb_sample.specs.Sample.{stream_of, bytes_of, stream_pages, is_too_long}
use Rattle.pdb_sample.proofs.SampleFacts.{long_refused, so_many_refused, sum_more, none_more}
use Rattle.pdb_sample.proofs.sample.count_pages.Goals as goal

pub returns-then-size-ge4294967295-clause-refused : goal.returns-then-size-ge4294967295-clause-refused
returns-then-size-ge4294967295-clause-refused c =
    let streams = map stream_of c.args.streams.now in
    let i = c.loop-stream.stream-index in
    let lt : i < length streams = omega (arith, length-map c.args.streams.now stream_of, c.loop-stream-test.true) in
    let here = get_or-map stream_of c.args.streams.now i None None c.loop-stream-test.true in
    let same : length c.bytes_of-size.result.now ≡ length (bytes_of (get_or streams i None)) = ap length c.bytes_of-size.ensures ∙ ap (λ s. length (bytes_of s)) (sym here) in
    long_refused streams i None lt (grind (arith, nat_tests))

pub returns-then-pages-gt4294967295-clause-refused : goal.returns-then-pages-gt4294967295-clause-refused
returns-then-pages-gt4294967295-clause-refused c =
    let streams = map stream_of c.args.streams.now in
    let i = c.loop-stream.stream-index in
    let lt : i < length streams = omega (arith, length-map c.args.streams.now stream_of, c.loop-stream-test.true) in
    let here = get_or-map stream_of c.args.streams.now i None None c.loop-stream-test.true in
    let same : length c.bytes_of-size.result.now ≡ length (bytes_of (get_or streams i None)) = ap length c.bytes_of-size.ensures ∙ ap (λ s. length (bytes_of s)) (sym here) in
    so_many_refused streams i None c.loop-stream.pages lt c.loop-stream.invariant.counted
    (rw (← same, ← c.div_ceil.ensures) c.if-pages-gt4294967295.true)

pub loop-stream-preserved : goal.loop-stream-preserved
loop-stream-preserved c =
    let s = c.args.streams.now in
    let i = c.loop-stream.stream-index in
    let same = ap length c.bytes_of-size.ensures in
    record {
      counted = rw (sum_more stream_pages stream_of s i None c.loop-stream-test.true, ← c.loop-stream.invariant.counted, c.div_ceil.ensures, same) refl;
      most = omega arith;
      short = none_more is_too_long stream_of s i None c.loop-stream-test.true c.loop-stream.invariant.short (grind (arith, nat_tests));
    }
