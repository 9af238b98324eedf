use Rattle.pdb.specs.AnnotationViews.{annotation_bytes}
use Rattle.pdb.specs.Views.{symbol_of, symbols_left}
use Rattle.pdb.specs.Inlinees.{inlinee_with}
use Rattle.pdb_list.proofs.Sites.{site_passed, site_stopped}
use Rattle.pdb_list.proofs.inlinees.put_list.Goals as goal

pub returns-then-not-branch : goal.returns-then-not-branch
returns-then-not-branch c =
    let site = c.in-Site.site in
    let lines = c.in_ok-put_site_lines-in-Site.ensures in
    site_stopped (inlinee_with c.args.known.now) c.loop-symbol.parent (symbols_left c.loop-symbol.symbols) (symbols_left c.next.new.self) (symbol_of c.in-Ok-Some.symbol) site.inlinee.0 (annotation_bytes site.annotations)
    c.loop-symbol.out.items c.put_site.new.out.items c.put_site_lines.new.out.items _
    (rw c.in-Ok-Some.field-0-is at c.in-Ok-Some.ensures.yields) (rw c.in-Site.is at c.in_ok-offset-in-Ok-Some.ensures) (rw c.index.ensures at c.in_ok-put_site-in-Site.ensures) lines.lines (rw c.if-not-branch.true at lines.goes_on) c.loop-symbol.invariant

pub loop-symbol-preserved-else-not-branch : goal.loop-symbol-preserved-else-not-branch
loop-symbol-preserved-else-not-branch c =
    let site = c.in-Site.site in
    let lines = c.in_ok-put_site_lines-in-Site.ensures in
    site_passed (inlinee_with c.args.known.now) c.loop-symbol.parent (symbols_left c.loop-symbol.symbols) (symbols_left c.next.new.self) (symbol_of c.in-Ok-Some.symbol) site.inlinee.0 (annotation_bytes site.annotations)
    c.loop-symbol.out.items c.put_site.new.out.items c.put_site_lines.new.out.items _
    (rw c.in-Ok-Some.field-0-is at c.in-Ok-Some.ensures.yields) (rw c.in-Site.is at c.in_ok-offset-in-Ok-Some.ensures) (rw c.index.ensures at c.in_ok-put_site-in-Site.ensures) lines.lines (rw c.if-not-branch.false at lines.goes_on) c.loop-symbol.invariant
