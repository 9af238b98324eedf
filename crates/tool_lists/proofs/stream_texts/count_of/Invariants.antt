use Rattle.std.proofs.Common.{◌≡◌, ◌+◌, drop}
use Rattle.std.specs.List.{prefix_len}
use Rattle.tool_lists.specs.StreamOrder.{is_of}
use Rattle.tool_lists.specs.StreamRoles.{stream_number}
use Rattle.tool_lists.proofs.stream_texts.count_of.Given as goal

-- those so far are of the stream
abbrev pub invariant-loop-role : goal.invariant-loop-role
invariant-loop-role l = record {
  counted : l.count + prefix_len (is_of stream_number l.number) (drop l.role-index l.roles) ≡ prefix_len (is_of stream_number l.number) l.roles;
  index : l.count ≡ l.role-index;
}
