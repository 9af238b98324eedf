use Rattle.std.proofs.Common.{◌≡◌, ◌++◌, flat_map, map, take}
use Rattle.json.specs.Tree.{json_tokens}
use Rattle.pdb_resolve.specs.KeptFrames.{shown_frame}
use Rattle.tool_search.specs.FrameObjects.{frame_value}
use Rattle.tool_search.proofs.frame_objects.put_frames.Given as goal

-- the objects of the frames so far were written
abbrev pub invariant-loop-frame : goal.invariant-loop-frame
invariant-loop-frame l = record {
  before : l.writer.before ≡ l.fn.writer.before;
  written : l.writer.tokens ≡ l.fn.writer.tokens ++ flat_map (λ f. json_tokens (frame_value f)) (map shown_frame (take l.frame-index l.frames));
}
