use Rattle.std.proofs.Common.{◌≡◌, ◌++◌, flat_map, map, take}
use Rattle.std.specs.Prelude.{codes}
use Rattle.tool_lists.specs.StreamRoles.{line_text, role_view}
use Rattle.tool_lists.proofs.stream_texts.put_more.Given as goal

-- the roles so far were put
abbrev pub invariant-loop-role : goal.invariant-loop-role
invariant-loop-role l = record {
  told : l.out.items ≡ l.fn.out.items ++ flat_map (λ x. codes ", " ++ line_text x.label x.name) (map role_view (take l.role-index l.roles));
}
