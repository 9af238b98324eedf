use Rattle.std.proofs.Common.{refl, option_copied}
use Rattle.pdb_frames.specs.FrameViews.{frame_bytes}
use Rattle.tool_lists.specs.FrameTexts.{newer_line}
use Rattle.tool_lists.proofs.StreamOrder.{one_more}
use Rattle.tool_lists.proofs.frame_texts.put_frame_data.Goals as goal

pub loop-k-preserved : goal.loop-k-preserved
loop-k-preserved c = one_more (newer_line c.args.format (option_copied c.args.strings) (frame_bytes c.args.records)) c.loop-k.k c.args.out.now.items c.loop-k.out.items c.put_newer.new.out.items _ c.loop-k.invariant c.in_ok-put_newer.ensures refl
