use Rattle.std.proofs.Common.{refl}
use Rattle.pdb_places.specs.declared.painted.Cut.{Cut}
use Rattle.pdb_places.proofs.Overlays.{first_more, second_more}
use Rattle.pdb_places.proofs.painted.merge.Goals as goal

pub loop-i-preserved-then-is_of_first : goal.loop-i-preserved-then-is_of_first
loop-i-preserved-then-is_of_first c =
    let cut = c.cut_at-cut.result in
    let next : Cut = record { start = cut.start; owner = c.either-owner.result } in
    rw c.in_ok-push.ensures.items (first_more c.args.first.now c.args.second.now c.loop-i.i c.loop-i.j c.loop-i.upper c.loop-i.lower c.loop-i.layer.items c.loop-i.invariant
    cut next refl c.requires.first (c.is_of_first.ensures.first c.if-is_of_first.true) (c.cut_at-cut.ensures cut)
    (λ d l. rw (c.cut_at-cut.ensures cut) (c.is_of_first.ensures.before c.if-is_of_first.true cut d l)) c.either-owner.ensures)

pub loop-i-preserved : goal.loop-i-preserved
loop-i-preserved c =
    let cut = c.cut_at-cut-else-is_of_first.result in
    let next : Cut = record { start = cut.start; owner = c.either-owner-else-is_of_first.result } in
    rw c.in_ok-push-2.ensures.items (second_more c.args.first.now c.args.second.now c.loop-i.i c.loop-i.j c.loop-i.upper c.loop-i.lower c.loop-i.layer.items c.loop-i.invariant
    cut next refl c.requires.second (c.is_of_first.ensures.second c.if-is_of_first.false) (c.cut_at-cut-else-is_of_first.ensures cut)
    (λ d l. rw (c.cut_at-cut-else-is_of_first.ensures cut) (c.is_of_first.ensures.behind c.if-is_of_first.false d cut l)) c.either-owner-else-is_of_first.ensures)
