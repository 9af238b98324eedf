use Rattle.std.proofs.Common.{◌≡◌, ◌+◌, ◌∷◌, drop, sym, ap, ◌∙◌}
use Rattle.pdb_resolve.specs.declared.frames.Frame.{Frame as FrameRead}
use Rattle.pdb_c.proofs.Putting.{drop_next}
use Rattle.pdb_c.proofs.FrameSteps.{rows_next, counts_next, names_next, sizes_next}
use Rattle.pdb_c.proofs.frames.put_frames.Goals as goal

pub loop-frame-preserved : goal.loop-frame-preserved
loop-frame-preserved c =
    let so_far = c.loop-frame.invariant in
    let on = c.in_ok-put_frame.ensures in
    let found = c.args.found.now in
    let n = c.loop-frame.frame-index in
    let item = c.frame-item.result in
    let next : drop n found ≡ item ∷ drop (n + 1) found = drop_next found n item c.loop-frame-test.true ∙ ap (λ (x : FrameRead). x ∷ drop (n + 1) found) (sym c.frame-item.is) in
    record {
      rows = rows_next c.args.address (drop n found) (drop (n + 1) found) c.loop-frame.count c.put_frame.new.count c.loop-frame.size c.put_frame.new.size item c.loop-frame.rows c.put_frame.new.rows _ next on.rows on.count on.size so_far.rows;
      count = counts_next found n c.loop-frame.count c.put_frame.new.count _ c.loop-frame-test.true on.count so_far.count;
      names = names_next (drop n found) (drop (n + 1) found) c.loop-frame.size c.put_frame.new.size item c.loop-frame.names c.put_frame.new.names _ next on.names on.size so_far.names;
      size = sizes_next (drop n found) (drop (n + 1) found) c.loop-frame.size c.put_frame.new.size _ item next on.size so_far.size;
    }
