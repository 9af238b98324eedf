use Rattle.std.proofs.Common.{◌≡◌, map, ap, ◌∙◌}
use Rattle.std.proofs.lemmas.List.{take_all}
use Rattle.pdb_places.specs.Pieces.{range_parts, range_start}
use Rattle.pdb_places.proofs.Pieces.{starts_kept}
use Rattle.pdb_code.proofs.SiteCalls.{on_ok}
use Rattle.pdb_code.proofs.module_parts.starts_of.Goals as goal

pub returns-clause-starts : goal.returns-clause-starts
returns-clause-starts c =
    let rows : map range_parts c.as_slice.result.now ≡ map range_start c.args.listed.now =
    ap (map range_parts) c.as_slice.ensures.value ∙ (c.loop-range.invariant ∙ ap (map range_start) (take_all c.loop-range.range-index c.args.listed.now c.loop-range-test.false)) in
    on_ok _ _ (λ starts same. λ cs are. starts_kept cs c.args.listed.now c.as_slice.result.now starts are rows same) c.new-2.result c.new-2.ensures.same
