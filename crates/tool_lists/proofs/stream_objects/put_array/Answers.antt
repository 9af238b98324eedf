use Rattle.std.proofs.Common.{◌∷◌, ◌++◌, [], ◌∙◌, append_assoc, flat_map, map}
use Rattle.json.specs.Token.{begin_array, end_array}
use Rattle.json.specs.Tree.{json_tokens}
use Rattle.tool_output.specs.Objects.{text_value}
use Rattle.tool_lists.specs.StreamRoles.{StreamRole, role_view, whole_text}
use Rattle.tool_lists.proofs.RoleValues.{items_of_roles}
use Rattle.tool_lists.proofs.stream_objects.put_array.Goals as goal

pub returns : goal.returns
returns c =
    let roles = map role_view c.args.roles.now in
    let before = c.args.writer.now.tokens in
    let strings = flat_map (λ (r : StreamRole). json_tokens (text_value (whole_text r.label r.name))) roles in
    let filled = rw c.in_ok-begin_array.ensures.ok at c.in_ok-put_all.ensures.1 in
    let ended = rw filled at c.in_ok-end_array.ensures.ok in
    let listed = items_of_roles roles in
    let same = append_assoc (before ++ begin_array ∷ []) strings (end_array ∷ []) ∙ append_assoc before (begin_array ∷ []) (strings ++ end_array ∷ []) in
    (c.end_array.ensures.room.0 ∙ (c.in_ok-put_all.ensures.0 ∙ c.begin_array.ensures.room.0), rw listed (ended ∙ same))
