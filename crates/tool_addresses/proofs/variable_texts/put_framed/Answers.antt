use Rattle.std.proofs.Common.{◌+◌, ◌-◌, length, map}
use Rattle.pdb_resolve.specs.KeptFrames.{shown_frame}
use Rattle.pdb_variables.specs.VariableViews.{shown_variable}
use Rattle.tool_addresses.proofs.OwnedLines.{frame_put, kept_fewer, kept_last, next_frame}
use Rattle.tool_addresses.proofs.variable_texts.put_framed.Goals as goal

pub loop-frame-preserved : goal.loop-frame-preserved
loop-frame-preserved c =
    let i = c.loop-frame.frame-index in
    let all = c.args.frames.now in
    let vs = map shown_variable c.args.variables.now in
    let so_far = c.loop-frame.invariant in
    let next = next_frame shown_frame c.args.machine vs all i c.frame-item.result c.loop-frame-test.true c.frame-item.is in
    let last = kept_last c.args.machine vs (length all - (i + 1)) c.loop-frame.lines c.put_last.new.self so_far.kept c.put_last.ensures.own c.put_last.ensures.calls in
    record {
      put = frame_put c.loop-frame.out.items c.put_frame.new.out.items c.put_last.new.out.items _ _ _ _ _ _ c.in_ok-put_frame.ensures c.in_ok-put_last.ensures.text last.0 next so_far.put;
      kept = kept_fewer c.args.machine vs (length all) i c.put_last.new.self last.1;
    }
