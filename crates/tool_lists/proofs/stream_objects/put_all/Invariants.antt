use Rattle.std.proofs.Common.{◌≡◌, ◌++◌, flat_map, map, take}
use Rattle.json.specs.Tree.{json_tokens}
use Rattle.tool_output.specs.Objects.{text_value}
use Rattle.tool_lists.specs.StreamRoles.{role_view, whole_text}
use Rattle.tool_lists.proofs.stream_objects.put_all.Given as goal

-- the roles so far were written
abbrev pub invariant-loop-role : goal.invariant-loop-role
invariant-loop-role l = record {
  before : l.writer.before ≡ l.fn.writer.before;
  written : l.writer.tokens ≡ l.fn.writer.tokens ++ flat_map (λ r. json_tokens (text_value (whole_text r.label r.name))) (map role_view (take l.role-index l.roles));
}
