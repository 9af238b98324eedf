use Rattle.std.proofs.Common.{refl}
use Rattle.pdb_frames.specs.FrameViews.{fpo_bytes}
use Rattle.tool_lists.specs.FrameTexts.{older_line}
use Rattle.tool_lists.proofs.StreamOrder.{one_more}
use Rattle.tool_lists.proofs.frame_texts.put_fpo.Goals as goal

pub loop-k-preserved : goal.loop-k-preserved
loop-k-preserved c = one_more (older_line c.args.format (fpo_bytes c.args.records)) c.loop-k.k c.args.out.now.items c.loop-k.out.items c.put_older.new.out.items _ c.loop-k.invariant c.in_ok-put_older.ensures refl
