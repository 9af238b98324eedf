-- The parts of types that need no more than the kind of a type that stands around no other.
use Rattle.std.proofs.Common.{◌≡◌, ℕ, ◌-◌, ◌≤◌, ◌<◌, List, Bool, true, false, cond, Option, Some, None, Result, Ok, Err, refl, sym, ap, ◌∙◌}
use Rattle.std.specs.Prelude.{◌==◌, ◌||◌}
use Rattle.pdb_base.specs.declared.error.Error.{Error}
use Rattle.pdb_base.specs.Refusal.{◌>>=◌}
use Rattle.pdb_items.specs.Items.{ItemEntry, item_with}
use Rattle.pdb_items.specs.Ids.{kind_at}
use Rattle.pdb_types.specs.TypeSays.{TypeSays}
use Rattle.pdb_types.specs.TypeSays.TypeSays.{Modifier, Pointer, Array, Bitfield, Procedure, MemberFunction, ArgumentList, Class, Union, Enumeration, VirtualTableShape, FieldList, Alias}
use Rattle.pdb_types.specs.TypeRows.{TypeForm, laid_type, read_of_type_form, type_form_of}
use Rattle.pdb_types.specs.TypeRows.TypeForm.{ArgumentListForm, ClassForm, UnionForm, EnumerationForm, VirtualTableShapeForm, FieldListForm, AliasForm}
use Rattle.pdb_types.specs.TypeReading.{type_fields_at}
use Rattle.pdb_types.specs.FullTypes.{said_type, says_of, says_of_item}
use Rattle.pdb_types.specs.TypeTexts.{Parts, parts, parts_of}
use Rattle.pdb_types.specs.Wrappers.{is_wrapper, wrapped}
use Rattle.pdb_types.proofs.NameSteps.{parts_step}

-- ---- kinds

bound : {A : Type 0} (r : Result A Error) (f : A → TypeSays) → ((x : A) → wrapped (Some (f x)) ≡ None) → wrapped (said_type (r >>= (λ s. Ok (Some (f s))))) ≡ None
bound (Ok x) f h = h x
bound (Err e) f h = refl

read : (f : TypeForm) (b : List ℕ) → ((x : (laid_type f).Parts) → wrapped (Some ((laid_type f).says x)) ≡ None) → wrapped (said_type (read_of_type_form f b)) ≡ None
unfolding read_of_type_form
read f b h = bound ((laid_type f).layout.at 0 b 2) (laid_type f).says h

-- by the tests of the kinds behind those of wrappers
others : (b : List ℕ) (list class union enumeration table fields alias : Bool) → wrapped (said_type (type_fields_at (cond list (Some ArgumentListForm) (cond class (Some ClassForm) (cond union (Some UnionForm) (cond enumeration (Some EnumerationForm) (cond table (Some VirtualTableShapeForm) (cond fields (Some FieldListForm) (cond alias (Some AliasForm) None))))))) b)) ≡ None
others b true c u e t f a = read ArgumentListForm b (λ x. refl)
others b false true u e t f a = read ClassForm b (λ x. refl)
others b false false true e t f a = read UnionForm b (λ x. refl)
others b false false false true t f a = read EnumerationForm b (λ x. refl)
others b false false false false true f a = read VirtualTableShapeForm b (λ x. refl)
others b false false false false false true a = read FieldListForm b (λ x. refl)
others b false false false false false false true = read AliasForm b (λ x. refl)
others b false false false false false false false = refl

neither : (a b : Bool) → (a || b) ≡ false → (a ≡ false) × (b ≡ false)
neither true b e = absurd cc
neither false b e = (refl, e)

kinds : (b : List ℕ) (k : ℕ) → is_wrapper k ≡ false → wrapped (said_type (type_fields_at (type_form_of k) b)) ≡ None
kinds b k e =
    let p5 = neither _ (k == 0x1009) e in
    let p4 = neither _ (k == 0x1008) p5.0 in
    let p3 = neither _ (k == 0x1205) p4.0 in
    let p2 = neither _ (k == 0x1503) p3.0 in
    let p1 = neither (k == 0x1001) (k == 0x1002) p2.0 in
    rw (p1.0, p1.1, p2.1, p3.1, p4.1, p5.1) (others b (k == 0x1201) (k == 0x1504 || k == 0x1505 || k == 0x1519) (k == 0x1506) (k == 0x1507) (k == 0x000a) (k == 0x1203) (k == 0x150a))

pub not_wrapped : (types : List ItemEntry) (i : ℕ) (x : ItemEntry) → item_with types i ≡ Some x → is_wrapper (kind_at x.bytes) ≡ false → wrapped None ≡ wrapped (says_of types i)
not_wrapped types i x there e = sym (ap (λ o. wrapped (says_of_item o)) there ∙ kinds x.bytes (kind_at x.bytes) e)

-- ---- parts

-- the same but for what stands before a declared name
abbrev Beside : Parts → Parts → Type 0
Beside p q = (p.back ≡ q.back) × (p.shape ≡ q.shape) × (p.is_right ≡ q.is_right)

module _ (types : List ItemEntry) (first : List ℕ → Option ℕ) (d : ℕ) (sub : ℕ → Parts) where
  of_wrapped : (says : Option TypeSays) → Beside (parts_of types first d sub says) (parts_of types first d sub (wrapped says))
  of_wrapped None = (refl, refl, refl)
  of_wrapped (Some (Modifier s)) = (refl, refl, refl)
  of_wrapped (Some (Pointer s)) = (refl, refl, refl)
  of_wrapped (Some (Array s)) = (refl, refl, refl)
  of_wrapped (Some (Bitfield s)) = (refl, refl, refl)
  of_wrapped (Some (Procedure s)) = (refl, refl, refl)
  of_wrapped (Some (MemberFunction s)) = (refl, refl, refl)
  of_wrapped (Some (ArgumentList js)) = (refl, refl, refl)
  of_wrapped (Some (Class size tag)) = (refl, refl, refl)
  of_wrapped (Some (Union size tag)) = (refl, refl, refl)
  of_wrapped (Some (Enumeration underlying tag)) = (refl, refl, refl)
  of_wrapped (Some (VirtualTableShape methods)) = (refl, refl, refl)
  of_wrapped (Some FieldList) = (refl, refl, refl)
  of_wrapped (Some (Alias name)) = (refl, refl, refl)

  beside : (says other : Option TypeSays) → wrapped says ≡ wrapped other → Beside (parts_of types first d sub says) (parts_of types first d sub other)
  beside says other e =
      let here = of_wrapped says in
      let there = of_wrapped other in
      let same = ap (parts_of types first d sub) e in
      (here.0 ∙ ap (λ (p : Parts). p.back) same ∙ sym there.0, here.1 ∙ ap (λ (p : Parts). p.shape) same ∙ sym there.1, here.2 ∙ ap (λ (p : Parts). p.is_right) same ∙ sym there.2)

module _ (types : List ItemEntry) (first : List ℕ → Option ℕ) (d i : ℕ) (says : Option TypeSays) (high : 0x1000 ≤ i) (deep : 0 < d) (e : wrapped says ≡ wrapped (says_of types i)) where
  step : Beside (parts types first d i) (parts_of types first (d - 1) (parts types first (d - 1)) says)
  step =
      let same = parts_step types first d i (says_of types i) high deep refl in
      rw same (beside types first (d - 1) (parts types first (d - 1)) (says_of types i) says (sym e))

  pub back_step : (parts types first d i).back ≡ (parts_of types first (d - 1) (parts types first (d - 1)) says).back
  back_step = step.0

  pub shape_step : (parts types first d i).shape ≡ (parts_of types first (d - 1) (parts types first (d - 1)) says).shape
  shape_step = step.1

  pub side_step : (parts types first d i).is_right ≡ (parts_of types first (d - 1) (parts types first (d - 1)) says).is_right
  side_step = step.2
