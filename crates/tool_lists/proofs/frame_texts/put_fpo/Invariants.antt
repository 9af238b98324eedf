use Rattle.std.proofs.Common.{◌≡◌, ◌++◌, flat_map}
use Rattle.std.specs.List.{range_with_len}
use Rattle.pdb_frames.specs.FrameViews.{fpo_bytes}
use Rattle.tool_lists.specs.FrameTexts.{older_line}
use Rattle.tool_lists.proofs.frame_texts.put_fpo.Given as goal

-- the lines of the records so far were put
abbrev pub invariant-loop-k : goal.invariant-loop-k
invariant-loop-k l = l.out.items ≡ l.fn.out.items ++ flat_map (older_line l.format (fpo_bytes l.records)) (range_with_len 0 l.k)
