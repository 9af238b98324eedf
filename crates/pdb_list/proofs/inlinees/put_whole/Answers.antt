use Rattle.std.proofs.Common.{[], ◌∷◌, ◌++◌, ◌∙◌, ap}
use Rattle.pdb.specs.ModuleViews.{inlinees_left}
use Rattle.pdb.specs.Inlinees.{inlinee_with}
use Rattle.pdb_list.proofs.Sites.{seen_more, told_more, whole_told}
use Rattle.pdb_text.proofs.Written.{on_ok}
use Rattle.pdb_list.proofs.inlinees.put_whole.Goals as goal

pub loop-inlinee-preserved : goal.loop-inlinee-preserved
loop-inlinee-preserved c =
    let inv = c.loop-inlinee.invariant in
    let x = c.in-Ok-Some.inlinee in
    let follows = (rw c.in-Ok-Some.field-0-is at c.in-Ok-Some.ensures.yields) in (
      inv.0 ++ x ∷ [],
      seen_more _ _ _ inv.0 x inv.1 follows.0,
      inv.2 ∙ follows.1,
      told_more _ _ _ inv.0 x inv.3 c.in_ok-put_inlinee-in-Ok-Some.ensures,
      rw (← inv.4) c.in_ok-push-in-Ok-Some.ensures.items,
    )

pub returns-in-Ok-None : goal.returns-in-Ok-None
returns-in-Ok-None c =
    let inv = c.loop-inlinee.invariant in
    let ends = (rw c.in-Ok-None.field-0-is at c.in-Ok-None.ensures.yields) in
    on_ok c.put_sites.result (whole_told c.args.info.now (inlinees_left c.args.inlinees) (inlinees_left c.loop-inlinee.inlinees) (inlinees_left c.next.new.self) inv.0 c.args.out.now.items c.loop-inlinee.out.items c.put_sites.new.out.items (inlinee_with c.in_ok-known-in-Ok-None.known) inv.1 inv.2 ends inv.3 (c.in_ok-known-in-Ok-None.ensures ∙ ap inlinee_with inv.4)) c.put_sites.ensures
