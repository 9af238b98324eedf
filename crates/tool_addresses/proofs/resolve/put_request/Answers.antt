use Rattle.std.proofs.Common.{ap, not}
use Rattle.pdb.proofs.Passing.{continues_then, may_after}
use Rattle.tool_output.proofs.Stops.{composing_weaken}
use Rattle.tool_addresses.proofs.resolve.put_request.Goals as goal

pub returns-clause-continues : goal.returns-clause-continues
returns-clause-continues g c = continues_then _ _ _ c.put_request_text.ensures.continues c.is_whole_where.ensures.continues

pub returns-clause-damaged : goal.returns-clause-damaged
returns-clause-damaged g c = λ told.
    let before = c.put_request_text.ensures.continues.told (c.is_whole_where.ensures.continues.told told) in
    let whole = rw (c.put_request_text.ensures.continues.file, c.place_at-place.ensures before) at (c.in_ok-is_whole_where.ensures.whole told) in
    ap not whole
