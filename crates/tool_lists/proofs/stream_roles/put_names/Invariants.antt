use Rattle.std.proofs.Common.{◌≡◌, ◌++◌, map}
use Rattle.pdb.specs.DbiViews.{stream_name}
use Rattle.tool_lists.specs.StreamRoles.{name_roles, role_view}
use Rattle.tool_lists.proofs.stream_roles.put_names.Given as goal

-- the roles of the names so far were put
abbrev pub invariant-loop-name : goal.invariant-loop-name
invariant-loop-name l = map role_view l.roles.items ≡ map role_view l.fn.roles.items ++ name_roles (map stream_name (map (λ n. n.now) l.yielded))
