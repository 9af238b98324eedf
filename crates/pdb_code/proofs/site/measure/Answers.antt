use Rattle.std.proofs.Common.{rules, ◌≡◌, get_or, map, sym, ap, subst, ◌∙◌}
use Rattle.std.proofs.Math.Seq.{map-set_same}
use Rattle.std.proofs.lemmas.List.Elements.{All-set}
use Rattle.pdb.specs.Inlinees.{inlinee_with}
use Rattle.pdb_code.specs.Listed.{entry_of, Bounds, AreBounded}
use Rattle.pdb_code.proofs.site.measure.Goals as goal

pub loop-i-preserved : goal.loop-i-preserved
loop-i-preserved c =
    let sites = c.loop-i.sites.items in
    let listed = inlinee_with c.args.known.now in
    let is : entry_of c.measured.result ≡ entry_of (get_or sites c.loop-i.i c.index.result.now) = search rules in
    record {
      same = ap (map entry_of) c.set.ensures ∙ (map-set_same entry_of sites c.loop-i.i c.measured.result c.index.result.now is ∙ c.loop-i.invariant.same);
      bounded = subst (AreBounded listed) (sym c.set.ensures) (All-set (Bounds listed) sites c.loop-i.i c.measured.result c.measured.ensures.bounds c.loop-i.invariant.bounded);
    }
