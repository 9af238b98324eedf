use Rattle.std.proofs.Common.{map, sym, arith}
use Rattle.pdb.specs.Inlinees.{inlinee_with}
use Rattle.pdb_code.specs.Kept.{shown_call}
use Rattle.pdb_code.proofs.Scopes.{one_more_call}
use Rattle.pdb_code.proofs.calls.calls_of.Goals as goal

pub loop-site-preserved : goal.loop-site-preserved
loop-site-preserved c =
    one_more_call c.args.place (inlinee_with c.args.known.now) c.args.procedure.place c.args.procedure.end c.args.sites.now c.loop-site.site-index c.site-item.result (map shown_call c.loop-site.calls.items) (map shown_call c.add_site.new.calls.items) _
    c.loop-site-test.true (sym c.site-item.is) (omega (arith, c.index.ensures, c.if-index-procedure.false)) c.in_ok-add_site.ensures.added c.loop-site.invariant
