use Rattle.std.proofs.Common.{◌∷◌, ◌++◌, [], ◌∙◌, append_assoc, flat_map, map}
use Rattle.json.specs.Token.{begin_array, end_array}
use Rattle.json.specs.Tree.{json_tokens}
use Rattle.pdb_resolve.specs.KeptFrames.{shown_frame}
use Rattle.tool_search.specs.FrameObjects.{frame_value}
use Rattle.tool_search.proofs.JsonValues.{items_of_frames}
use Rattle.tool_search.proofs.frame_objects.put_array.Goals as goal

pub returns : goal.returns
returns c =
    let frames = map shown_frame c.args.frames.now in
    let before = c.args.writer.now.tokens in
    let objects = flat_map (λ f. json_tokens (frame_value f)) frames in
    let framed = rw c.in_ok-begin_array.ensures.ok at c.in_ok-put_frames.ensures.1 in
    let ended = rw framed at c.in_ok-end_array.ensures.ok in
    let listed = items_of_frames frames in
    let same = append_assoc (before ++ begin_array ∷ []) objects (end_array ∷ []) ∙ append_assoc before (begin_array ∷ []) (objects ++ end_array ∷ []) in
    (c.end_array.ensures.room.0 ∙ (c.in_ok-put_frames.ensures.0 ∙ c.begin_array.ensures.room.0), rw listed (ended ∙ same))
