use Rattle.std.proofs.Common.{◌≡◌, ℕ, ◌≤◌, ◌++◌, flat_map, true, drop, length, true}
use Rattle.std.specs.List.{filter, range_with_len}
use Rattle.tool_lists.specs.StreamOrder.{is_of, rises}
use Rattle.tool_lists.specs.StreamRoles.{stream_number}
use Rattle.tool_lists.specs.StreamTexts.{role_line}
use Rattle.tool_lists.proofs.stream_texts.put_lines.Given as goal

-- the lines so far were put; the roles from here on are those of the other streams, in their order
abbrev pub invariant-loop-number : goal.invariant-loop-number
invariant-loop-number g l = record {
  told : l.pdb.told ≡ true → l.out.items ≡ l.fn.out.items ++ flat_map (role_line l.format l.pdb.file l.roles) (range_with_len 0 l.number);
  within : l.at ≤ length l.roles;
  rises : rises stream_number l.number (drop l.at l.roles) ≡ true;
  same : (m : ℕ) → l.number ≤ m → filter (is_of stream_number m) (drop l.at l.roles) ≡ filter (is_of stream_number m) l.roles;
}
