-- Inlined functions and their sites, put one by one.
use Rattle.std.proofs.Common.{◌≡◌, ℕ, Result, Ok, Err, List, [], ◌∷◌, ◌++◌, true, false, Option, Some, None, is_none, flat_map, refl, sym, ap, ◌∙◌, append_assoc, arith}
use Rattle.std.proofs.lemmas.Grind.{common_steps}
use Rattle.std.proofs.lemmas.List.{append-nil}
use Rattle.pdb.specs.Error.{Error}
use Rattle.pdb.specs.PdbInternalSectionOffset.{PdbInternalSectionOffset}
use Rattle.pdb.specs.Left.{Left, Follows, Ends}
use Rattle.pdb.specs.Inlinees.{InlineeEntry}
use Rattle.pdb.specs.ModuleStream.{ModuleBytes}
use Rattle.pdb.specs.Data.{Data}
use Rattle.pdb.specs.Data.Data.{Procedure, InlineSite}
use Rattle.pdb.specs.Scopes.{StartsScope}
use Rattle.pdb.specs.Forms.{record_at}
use Rattle.pdb.specs.SymbolList.{Entry}
use Rattle.pdb_list.specs.Texts.{fault_text}
use Rattle.pdb.specs.Inlinees.{inlinee_with}
use Rattle.pdb_list.specs.ModuleTexts.{here, line_text, line_list_text, inlinee_text, inlinee_list_text, sites_of_text, site_lines, site_text, sites_text, unless_fault, with_lines}
use Rattle.pdb_list.specs.ModuleTexts.Here.{at_site, passed}

no_fault : (xs rest : List ℕ) (f : Option Error) → true ≡ is_none f → (xs ++ fault_text f) ++ rest ≡ xs ++ unless_fault f rest
no_fault xs rest None h = append_assoc xs [] rest
no_fault xs rest (Some e) h = absurd cc

a_fault : (xs rest : List ℕ) (f : Option Error) → false ≡ is_none f → xs ++ fault_text f ≡ xs ++ unless_fault f rest
a_fault xs rest None h = absurd cc
a_fault xs rest (Some e) h = refl

-- what starts no scope is passed over
pub passed_over : (r : Result Data Error) → ((d : Data) → r ≡ Ok d → StartsScope d → true ≡ false) → passed ≡ here r
passed_over (Err e) none = refl
passed_over (Ok (Procedure s)) none = let e = none (Procedure s) refl tt in absurd cc
passed_over (Ok (InlineSite s)) none = let e = none (InlineSite s) refl tt in absurd cc
passed_over (Ok d) none = refl

module _ (listed : ℕ → Option InlineeEntry) (p : Option PdbInternalSectionOffset) (old new : Left Entry) (s : Entry) (id : ℕ) (a : List ℕ) where
  -- the text of the symbols from a site on
  from_site : Follows old (s ∷ []) new → at_site id a ≡ here (record_at s.bytes)
      → sites_text listed p old.items old.fault ≡ site_text s.index id ++ with_lines (site_lines p a (listed id)) (sites_text listed p new.items new.fault)
  from_site h e = rw (h.0, h.1, ← e) refl

  -- a site, all of whose records were put
  pub site_passed : (o out1 out2 all : List ℕ) → Follows old (s ∷ []) new → at_site id a ≡ here (record_at s.bytes)
      → out1 ≡ o ++ site_text s.index id → out2 ≡ out1 ++ line_list_text (site_lines p a (listed id)) → true ≡ is_none (site_lines p a (listed id)).fault
      → o ++ sites_text listed p old.items old.fault ≡ all
      → out2 ++ sites_text listed p new.items new.fault ≡ all
  site_passed o out1 out2 all h e p1 p2 goes before =
      let lines = site_lines p a (listed id) in
      let rest = sites_text listed p new.items new.fault in
      ap (λ ys. ys ++ rest) (p2 ∙ ap (λ ys. ys ++ line_list_text lines) p1)
      ∙ append_assoc (o ++ site_text s.index id) (line_list_text lines) rest
      ∙ append_assoc o (site_text s.index id) (line_list_text lines ++ rest)
      ∙ ap (λ ys. o ++ (site_text s.index id ++ ys)) (no_fault (flat_map line_text lines.items) rest lines.fault goes)
      ∙ ap (λ ys. o ++ ys) (sym (from_site h e))
      ∙ before

  -- a site whose annotations have a fault, behind which nothing stands
  pub site_stopped : (o out1 out2 all : List ℕ) → Follows old (s ∷ []) new → at_site id a ≡ here (record_at s.bytes)
      → out1 ≡ o ++ site_text s.index id → out2 ≡ out1 ++ line_list_text (site_lines p a (listed id)) → false ≡ is_none (site_lines p a (listed id)).fault
      → o ++ sites_text listed p old.items old.fault ≡ all
      → out2 ≡ all
  site_stopped o out1 out2 all h e p1 p2 stops before =
      let lines = site_lines p a (listed id) in
      let rest = sites_text listed p new.items new.fault in
      p2 ∙ ap (λ ys. ys ++ line_list_text lines) p1
      ∙ append_assoc o (site_text s.index id) (line_list_text lines)
      ∙ ap (λ ys. o ++ (site_text s.index id ++ ys)) (a_fault (flat_map line_text lines.items) rest lines.fault stops)
      ∙ ap (λ ys. o ++ ys) (sym (from_site h e))
      ∙ before

-- ---- inlined functions: those so far, and one more

pub seen_more : {A : Type 0} (all rest after seen : List A) (x : A) → all ≡ seen ++ rest → rest ≡ x ∷ after → all ≡ (seen ++ x ∷ []) ++ after
seen_more all rest after seen x h e = rw (h, e) (sym (append_assoc seen (x ∷ []) after))

pub told_more : (o out1 out2 : List ℕ) (seen : List InlineeEntry) (x : InlineeEntry) → out1 ≡ o ++ flat_map inlinee_text seen → out2 ≡ out1 ++ inlinee_text x → out2 ≡ o ++ flat_map inlinee_text (seen ++ x ∷ [])
told_more o out1 out2 seen x h e =
    let f : flat_map inlinee_text (seen ++ x ∷ []) ≡ flat_map inlinee_text seen ++ inlinee_text x = grind (arith, common_steps) in
    rw (e, h, f) (append_assoc o (flat_map inlinee_text seen) (inlinee_text x))

-- all of them, and then the sites
pub whole_told : (m : ModuleBytes) (all old new : Left InlineeEntry) (seen : List InlineeEntry) (o out1 out2 : List ℕ) (known : ℕ → Option InlineeEntry)
    → all.items ≡ seen ++ old.items → all.fault ≡ old.fault → Ends old [] None new → out1 ≡ o ++ flat_map inlinee_text seen → known ≡ inlinee_with seen
    → out2 ≡ out1 ++ sites_of_text known m → out2 ≡ o ++ inlinee_list_text m all
whole_told m all old new seen o out1 out2 known items fault h out k p =
    let i : all.items ≡ seen = items ∙ ap (λ ys. seen ++ ys) h.0 ∙ append-nil seen in
    rw (i, fault ∙ h.1, ← k) (p ∙ ap (λ ys. ys ++ sites_of_text known m) out ∙ append_assoc o (flat_map inlinee_text seen) (sites_of_text known m))
