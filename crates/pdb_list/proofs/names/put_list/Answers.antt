use Rattle.std.proofs.Common.{◌≡◌, ◌++◌, List, flat_map, map, ap, refl, ◌∙◌}
use Rattle.std.specs.Slice.Iter.{iter_rest}
use Rattle.std.proofs.lemmas.Iterator.{YieldsList-from_slice}
use Rattle.std.proofs.lemmas.Iterator.Consumers.{YieldsList-end}
use Rattle.pdb.specs.Names.{Name}
use Rattle.pdb.specs.DbiViews.{stream_name}
use Rattle.pdb_list.specs.Texts.{stream_name_text}
use Rattle.pdb_list.proofs.names.put_list.Goals as goal

pub returns : goal.returns
returns c =
    let made = c.into_iter-listed-iterator in
    let all = iter_rest made.result in
    let whole = YieldsList-end (YieldsList-from_slice all refl) c.loop-listed.yielded _ c.loop-listed.yielded_by _ _ c.in-None.is c.next.ensures.steps in
    let same : map stream_name (map (λ n. n.now) c.loop-listed.yielded) ≡ c.args.names.now = ap (map stream_name) (whole.0 ∙ ap iter_rest made.ensures.into_iter_gives) ∙ c.iter-listed-items.ensures in
    c.loop-listed.invariant ∙ ap (λ (names : List Name). c.args.out.now.items ++ flat_map stream_name_text names) same
