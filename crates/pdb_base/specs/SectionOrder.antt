-- Comparing offsets only within a section is a partial order.
use Rattle.std.proofs.Common.{◌≡◌, ℕ, Bool, true, false, cond, ◌&&◌, Some, None, refl, ap, ◌∙◌}
use Rattle.std.specs.Prelude.{◌==◌}
use Rattle.std.proofs.lemmas.Bool.{eq-eqb, eqb-true}
use Rattle.std.specs.Option.{option_map}
use Rattle.std.specs.Cmp.{IsPartialOrder, nat_cmp_total, nat_eq_equiv, unsigned_po}
use Rattle.std.specs.Ordering.{nat_cmp, ordering_reverse}
use Rattle.std.specs.declared.cmp.Ordering.{Ordering}
use Rattle.std.specs.declared.cmp.Ordering.TheVariants.{Equal}
use Rattle.pdb_base.specs.declared.index.PdbInternalSectionOffset.{PdbInternalSectionOffset}
use Rattle.pdb_base.specs.Index.{by_section}

abbrev same : PdbInternalSectionOffset → PdbInternalSectionOffset → Bool
same x y = (x.offset == y.offset) && (x.section == y.section)

reversed : (b : Bool) (r s : Ordering) → r ≡ ordering_reverse s → cond b (Some r) None ≡ option_map ordering_reverse (cond b (Some s) None)
reversed true r s e = ap Some e
reversed false r s e = refl

was_some : (b : Bool) (r s : Ordering) → cond b (Some r) None ≡ Some s → (b ≡ true) × (r ≡ s)
was_some true r s e = (refl, cc)
was_some false r s e = absurd cc

both : (a b : Bool) → (a && b) ≡ true → (a ≡ true) × (b ≡ true)
both true b e = (refl, e)
both false b e = absurd cc

equal_is : (x y : ℕ) → nat_cmp x y ≡ Equal → x ≡ y
equal_is x y e = eqb-true x y ((unsigned_po.matches_eq x y).1 (ap Some e))

is_equal : (x y : ℕ) → x ≡ y → nat_cmp x y ≡ Equal
is_equal x y e = inside ((unsigned_po.matches_eq x y).0 (eq-eqb x y e))
  where
    inside : Some (nat_cmp x y) ≡ Some Equal → nat_cmp x y ≡ Equal
    inside h = cc

both_true : (a b : Bool) → a ≡ true → b ≡ true → (a && b) ≡ true
both_true a b e f = rw (e, f) refl

pub section_laws : IsPartialOrder same by_section
section_laws = record {
  antisymm = λ x y. ap (λ b. cond b (Some (nat_cmp x.offset y.offset)) None) (nat_eq_equiv.symm x.section y.section) ∙ reversed (y.section == x.section) _ _ (nat_cmp_total.antisymm x.offset y.offset);
  trans = λ x y z p q.
      let a = was_some (x.section == y.section) _ _ p in
      let b = was_some (y.section == z.section) _ _ q in
      let s : x.section ≡ z.section = eqb-true _ _ a.0 ∙ eqb-true _ _ b.0 in
      let t : (x.section == z.section) ≡ true = eq-eqb x.section z.section s in
      rw t (ap Some (nat_cmp_total.trans x.offset y.offset z.offset a.1 b.1));
  matches_eq = λ x y. (
    λ e. let b = both (x.offset == y.offset) (x.section == y.section) e in
        rw b.1 (ap Some (is_equal x.offset y.offset (eqb-true _ _ b.0))),
    λ e. let w = was_some (x.section == y.section) _ _ e in
        both_true _ _ (eq-eqb x.offset y.offset (equal_is x.offset y.offset w.1)) w.0,
  );
  congr = λ x y z e. let b = both (x.offset == y.offset) (x.section == y.section) e in
      let o : x.offset ≡ y.offset = eqb-true _ _ b.0 in let s : x.section ≡ y.section = eqb-true _ _ b.1 in
      rw (o, s) refl;
}
