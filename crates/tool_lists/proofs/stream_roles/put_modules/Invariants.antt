use Rattle.std.proofs.Common.{◌≡◌, ◌++◌, map, length}
use Rattle.pdb.specs.DbiViews.{modules_left, modules_steps}
use Rattle.tool_lists.specs.StreamRoles.{module_roles, role_view}
use Rattle.tool_lists.proofs.stream_roles.put_modules.Given as goal

-- the roles so far, and those of the modules that are left, are all
abbrev pub invariant-loop-module : goal.invariant-loop-module
invariant-loop-module l = record {
  counted : modules_steps l.modules ≡ l.k;
  told : map role_view l.fn.roles.items ++ module_roles 0 (modules_left l.fn.modules).items ≡ map role_view l.roles.items ++ module_roles l.k (modules_left l.modules).items;
}

abbrev pub decreases-loop-module : goal.decreases-loop-module
decreases-loop-module l = length (modules_left l.modules).items
