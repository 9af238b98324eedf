use Rattle.std.proofs.Common.{◌≡◌, ◌++◌, List, map, ap, refl, ◌∙◌}
use Rattle.std.specs.Slice.Iter.{iter_rest}
use Rattle.std.proofs.lemmas.Iterator.{YieldsList-from_slice}
use Rattle.std.proofs.lemmas.Iterator.Consumers.{YieldsList-end}
use Rattle.pdb.specs.Names.{Name}
use Rattle.pdb.specs.DbiViews.{stream_name}
use Rattle.tool_lists.specs.StreamRoles.{name_roles, role_view}
use Rattle.tool_lists.proofs.stream_roles.put_names.Goals as goal

pub returns : goal.returns
returns c =
    let made = c.into_iter-name-iterator in
    let all = iter_rest made.result in
    let whole = YieldsList-end (YieldsList-from_slice all refl) c.loop-name.yielded _ c.loop-name.yielded_by _ _ c.in-None.is c.next.ensures.steps in
    let same : map stream_name (map (λ n. n.now) c.loop-name.yielded) ≡ c.args.names.now = ap (map stream_name) (whole.0 ∙ ap iter_rest made.ensures.into_iter_gives) ∙ c.iter-name-items.ensures in
    c.loop-name.invariant ∙ ap (λ (names : List Name). map role_view c.args.roles.now.items ++ name_roles names) same
