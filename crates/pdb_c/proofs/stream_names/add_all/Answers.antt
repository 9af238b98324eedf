use Rattle.std.proofs.Common.{◌≡◌, List, map, ap, refl, ◌∙◌}
use Rattle.std.specs.Slice.Iter.{iter_rest}
use Rattle.std.proofs.lemmas.Iterator.{YieldsList-from_slice}
use Rattle.std.proofs.lemmas.Iterator.Consumers.{YieldsList-end}
use Rattle.pdb.specs.Names.{Name}
use Rattle.pdb.specs.DbiViews.{stream_name}
use Rattle.pdb_c.specs.StreamNameRows.{name_rows, names_bytes}
use Rattle.pdb_c.proofs.StreamNameSteps.{one_more, rows_next, bytes_next}
use Rattle.pdb_c.proofs.stream_names.add_all.Goals as goal

pub loop-listed-preserved : goal.loop-listed-preserved
loop-listed-preserved c =
    let so_far = c.loop-listed.invariant in
    let seen = map (λ n. n.now) c.loop-listed.yielded in
    let n = c.in-Some.listed.now in
    let more = one_more stream_name (λ n. n.now) c.loop-listed.yielded c.in-Some.listed in
    record {
      rows = rows_next (map stream_name seen) _ (stream_name n) c.loop-listed.rows.items _ c.loop-listed.bytes.items more c.in_ok-add.ensures.rows so_far.rows so_far.bytes;
      bytes = bytes_next (map stream_name seen) _ (stream_name n) c.loop-listed.bytes.items _ more c.in_ok-add.ensures.bytes so_far.bytes;
    }

pub returns-clause-rows : goal.returns-clause-rows
returns-clause-rows c =
    let made = c.into_iter-listed-iterator in
    let all = iter_rest made.result in
    let whole = YieldsList-end (YieldsList-from_slice all refl) c.loop-listed.yielded _ c.loop-listed.yielded_by _ _ c.in-None.is c.next.ensures.steps in
    let same : map stream_name (map (λ n. n.now) c.loop-listed.yielded) ≡ c.args.names.now = ap (map stream_name) (whole.0 ∙ ap iter_rest made.ensures.into_iter_gives) ∙ c.iter-listed-items.ensures in
    c.loop-listed.invariant.rows ∙ ap (λ (names : List Name). name_rows 0 names) same

pub returns-clause-bytes : goal.returns-clause-bytes
returns-clause-bytes c =
    let made = c.into_iter-listed-iterator in
    let all = iter_rest made.result in
    let whole = YieldsList-end (YieldsList-from_slice all refl) c.loop-listed.yielded _ c.loop-listed.yielded_by _ _ c.in-None.is c.next.ensures.steps in
    let same : map stream_name (map (λ n. n.now) c.loop-listed.yielded) ≡ c.args.names.now = ap (map stream_name) (whole.0 ∙ ap iter_rest made.ensures.into_iter_gives) ∙ c.iter-listed-items.ensures in
    c.loop-listed.invariant.bytes ∙ ap (λ (names : List Name). names_bytes names) same
