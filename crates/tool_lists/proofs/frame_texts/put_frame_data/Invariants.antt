use Rattle.std.proofs.Common.{◌≡◌, ◌++◌, flat_map, option_copied}
use Rattle.std.specs.List.{range_with_len}
use Rattle.pdb_frames.specs.FrameViews.{frame_bytes}
use Rattle.tool_lists.specs.FrameTexts.{newer_line}
use Rattle.tool_lists.proofs.frame_texts.put_frame_data.Given as goal

-- the lines of the records so far were put
abbrev pub invariant-loop-k : goal.invariant-loop-k
invariant-loop-k l = l.out.items ≡ l.fn.out.items ++ flat_map (newer_line l.format (option_copied l.strings) (frame_bytes l.records)) (range_with_len 0 l.k)
