use Rattle.std.proofs.Common.{◌≡◌, ℕ, List, Option, Some, sym, ap, subst, ◌∙◌, map, drop}
use Rattle.std.specs.Option.{option_map}
use Rattle.pdb.specs.Inlinees.{InlineeEntry, inlinee_with}
use Rattle.pdb_code.specs.declared.site.KeptSite.{KeptSite}
use Rattle.pdb_code.specs.ModuleCode.{inlined_at, procedure_at}
use Rattle.pdb_code.specs.Kept.{calls_until, AreRising, IsBehind}
use Rattle.pdb_code.specs.Listed.{shown_procedure, entry_of}
use Rattle.pdb_code.proofs.SiteCalls.{on_ok, calls_found, sites_rise}
use Rattle.pdb_resolve.proofs.module_code.ModuleCode.inlined_in.Goals as goal

pub count_upto-requires : goal.count_upto-requires
count_upto-requires c = subst AreRising (sym c.as_slice-sites.ensures.value) (sites_rise c.self.inside.info.now c.self.inside.sites.items c.self.invariant.4)

pub returns-clause-calls : goal.returns-clause-calls
returns-clause-calls c =
    let m = c.self.inside.info.now in
    let q = c.args.place in
    let code = shown_procedure c.in-Some.procedure in
    let kept = c.self.inside.sites.items in
    let n = c.count_upto.result in
    let value = c.as_slice-sites.ensures.value in
    let behind : IsBehind code.index kept n = subst (λ (ss : List KeptSite). IsBehind code.index ss n) value c.count_upto.ensures in
    let rest : c.split_at.result.1.now ≡ drop n kept = c.split_at.ensures.back ∙ ap (λ (ss : List KeptSite). drop n ss) value in
    let known : inlinee_with c.self.inside.known ≡ _ = c.self.invariant.3 in
    let found : procedure_at q m ≡ Some code = sym (sym (ap (option_map shown_procedure) c.in-Some.is) ∙ (c.requires ∙ ap (procedure_at q) (sym c.self.view_is))) in
    on_ok _ _ (λ calls e. e
    ∙ (ap (λ (ss : List KeptSite). calls_until q (inlinee_with c.self.inside.known) code.place code.end (map entry_of ss)) rest
    ∙ (ap (λ (f : ℕ → Option InlineeEntry). calls_until q f code.place code.end (map entry_of (drop n kept))) known
    ∙ (calls_found q m code kept n c.self.invariant.4 found behind ∙ ap (inlined_at q) c.self.view_is)))) c.calls_of.result c.calls_of.ensures.calls
