use Rattle.std.specs.Prelude.{OnOk}
use Rattle.std.proofs.Common.{◌≡◌, ◌++◌, List, Option, None, Result, Ok, Err, map, sym, subst, ◌∙◌}
use Rattle.std.proofs.lemmas.List.{append-nil}
use Rattle.std.specs.Option.{option_to_list}
use Rattle.pdb.specs.SymbolList.{Entry}
use Rattle.pdb.specs.Views.{symbol_of}
use Rattle.pdb_places.specs.Pieces.{code_parts}
use Rattle.pdb_code.specs.Listed.{entry_of}
use Rattle.pdb_code.proofs.Sites.{counted_site_read, site_is, site_no_other, site_no_procedure, site_read}
use Rattle.pdb_code.proofs.rows.add.Goals as goal

on_ok : {T E : Type 0} (r : Result T E) (P : Type 0) → P → OnOk r P
on_ok (Ok x) P p = p
on_ok (Err e) P p = tt

no_more : {A : Type 0} (xs : List A) (o : Option A) → o ≡ None → xs ≡ xs ++ option_to_list o
no_more xs o e = rw e (sym (append-nil xs))

no_more_mapped : {A B : Type 0} (f : A → B) (xs : List B) (o : Option A) → o ≡ None → xs ≡ xs ++ map f (option_to_list o)
no_more_mapped f xs o e = rw e (sym (append-nil xs))

pub returns-in-4429-clause-procedures : goal.returns-in-4429-clause-procedures
returns-in-4429-clause-procedures c =
    let s = symbol_of c.args.symbol in
    on_ok _ _ (no_more _ _ (site_no_procedure s 14 (site_read s.bytes (sym c.raw_kind.ensures ∙ c.in-4429.is))))

pub returns-in-4429-clause-others : goal.returns-in-4429-clause-others
returns-in-4429-clause-others c =
    let s = symbol_of c.args.symbol in
    on_ok _ _ (no_more_mapped code_parts _ _ (site_no_other s 14 (site_read s.bytes (sym c.raw_kind.ensures ∙ c.in-4429.is))))

pub returns-in-4429-clause-sites : goal.returns-in-4429-clause-sites
returns-in-4429-clause-sites c =
    let s = symbol_of c.args.symbol in
    let is = site_is s 14 (site_read s.bytes (sym c.raw_kind.ensures ∙ c.in-4429.is)) in
    subst (λ (o : Option Entry). OnOk c.add_site.result (map entry_of c.add_site.new.sites.items ≡ map entry_of c.args.rows.now.sites.items ++ option_to_list o)) (sym is) c.add_site.ensures.pushed

pub returns-in-4445-clause-procedures : goal.returns-in-4445-clause-procedures
returns-in-4445-clause-procedures c =
    let s = symbol_of c.args.symbol in
    on_ok _ _ (no_more _ _ (site_no_procedure s 18 (counted_site_read s.bytes (sym c.raw_kind.ensures ∙ c.in-4445.is))))

pub returns-in-4445-clause-others : goal.returns-in-4445-clause-others
returns-in-4445-clause-others c =
    let s = symbol_of c.args.symbol in
    on_ok _ _ (no_more_mapped code_parts _ _ (site_no_other s 18 (counted_site_read s.bytes (sym c.raw_kind.ensures ∙ c.in-4445.is))))

pub returns-in-4445-clause-sites : goal.returns-in-4445-clause-sites
returns-in-4445-clause-sites c =
    let s = symbol_of c.args.symbol in
    let is = site_is s 18 (counted_site_read s.bytes (sym c.raw_kind.ensures ∙ c.in-4445.is)) in
    subst (λ (o : Option Entry). OnOk c.add_site-in-4445.result (map entry_of c.add_site-in-4445.new.sites.items ≡ map entry_of c.args.rows.now.sites.items ++ option_to_list o)) (sym is) c.add_site-in-4445.ensures.pushed
