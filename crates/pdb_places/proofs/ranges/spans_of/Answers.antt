use Rattle.pdb_places.proofs.PaintedRanges.{more_spans}
use Rattle.pdb_places.proofs.ranges.spans_of.Goals as goal

pub loop-range-preserved : goal.loop-range-preserved
loop-range-preserved c =
    rw c.in_ok-push.ensures.items (more_spans c.args.ranges.now c.loop-range.range-index c.loop-range.spans.items c.range-item.result c.span.result c.loop-range.invariant c.loop-range-test.true c.range-item.is c.span.ensures.start c.span.ensures.end c.span.ensures.owner)
