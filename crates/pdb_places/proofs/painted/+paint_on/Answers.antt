use Rattle.std.proofs.Common.{subst, List, arith}
use Rattle.std.proofs.lemmas.Result.{on_ok_weaker}
use Rattle.pdb_places.specs.declared.span.Span.{Span}
use Rattle.pdb_places.specs.Painting.{PaintsOn}
use Rattle.pdb_places.proofs.Paintings.{painted_on}
use Rattle.pdb_places.proofs.painted.+paint_on.Goals as goal

pub returns : goal.returns
returns t c =
    let first = subst (λ (l : List Span). PaintsOn l c.args.cuts.now.items c.paint_on.new.cuts.items) c.split_at.ensures.front c.in_ok-paint_on.ensures in
    let second = subst (λ (l : List Span). PaintsOn l c.paint_on.new.cuts.items c.paint_on-2.new.cuts.items) c.split_at.ensures.back c.in_ok-paint_on-2.ensures in
    on_ok_weaker c.lay_over.result (painted_on c.args.spans.now _ c.len-from.result c.len-middle.result _ _ _ _ first second (omega arith) (omega arith)) c.lay_over.ensures
