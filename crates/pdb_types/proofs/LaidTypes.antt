-- What is read of a type record is what its parts say.
use Rattle.std.proofs.Common.{◌≡◌, ◌==◌, ℕ, Bool, true, false, List, Some, None, Result, Ok, Err, refl, sym, ap, subst}
use Rattle.pdb_base.specs.declared.error.Error.{Error}
use Rattle.pdb_base.specs.Refusal.{◌>>=◌}
use Rattle.pdb_base.specs.declared.error.Error.TheVariants.{UnexpectedEof}
use Rattle.pdb_base.specs.Fields.{number_at}
use Rattle.pdb_base.proofs.Places.{bind_ok, number_is, is_number}
use Rattle.pdb_base.proofs.Variants.{variant_is, is_variant}
use Rattle.pdb_base.proofs.Layouts.{Tells, then_tells, behind_tells, together_tells, number_tells, number_as_tells, slice_tells, cstring_tells, rest_tells, nothing_tells}
use Rattle.pdb_types.specs.declared.pointer.PointerMode.{PointerMode}
use Rattle.pdb_types.specs.declared.pointer.PointerMode.TheVariants as modes
use Rattle.pdb_items.specs.IdForms.{type_index_of}
use Rattle.std.proofs.lemmas.Bool.{eqb-true}
use Rattle.pdb_types.specs.TypeSays.{TypeSays}
use Rattle.pdb_types.specs.TypeSays.TypeSays.{FieldList}
use Rattle.pdb_types.specs.TypeRows.{TypeForm, laid_type, IsOfTypeForm, read_of_type_form, numeric, mode_at, IsMode, mode_part}
use Rattle.pdb_types.specs.TypeRows.TypeForm.{ModifierForm, VirtualTableShapeForm, FieldListForm}

pub numeric_tells : Tells numeric
numeric_tells = record {
  is = λ kind b i n e. let (v, e1, r1) = bind_ok _ _ _ e in (v, variant_is b i v e1, cc);
  reads = λ kind b i n h. rw (is_variant b i h.0 h.1) (ap Ok (sym h.2));
}

mode_is : (m : ℕ) (b : List ℕ) (i : ℕ) (x : PointerMode) → mode_at m b i ≡ Ok x → IsMode m b i x
mode_is m b i x e = test_0 (m == 0) refl
  where
    test_4 : (t : Bool) → (m == 4) ≡ t → (m == 0) ≡ false → (m == 1) ≡ false → (m == 2) ≡ false → (m == 3) ≡ false → IsMode m b i x
    test_4 true is f0 f1 f2 f3 = let q : ◌≡◌ {A = Result PointerMode Error} (Ok modes.RvalueReference) (Ok x) = rw (f0, f1, f2, f3, is) at e in let same : modes.RvalueReference ≡ x = cc in subst (IsMode m b i) same (eqb-true m 4 is)
    test_4 false is f0 f1 f2 f3 = let q : ◌≡◌ {A = Result PointerMode Error} (Err UnexpectedEof) (Ok x) = rw (f0, f1, f2, f3, is) at e in absurd cc

    test_3 : (t : Bool) → (m == 3) ≡ t → (m == 0) ≡ false → (m == 1) ≡ false → (m == 2) ≡ false → IsMode m b i x
    test_3 true is f0 f1 f2 =
        let (n, at, r) = bind_ok (number_at b i 4) (λ n. Ok (modes.MemberFunction (type_index_of n))) x (rw (f0, f1, f2, is) at e) in
        let same : modes.MemberFunction (type_index_of n) ≡ x = cc in subst (IsMode m b i) same (eqb-true m 3 is, number_is b i 4 n at)
    test_3 false is f0 f1 f2 = test_4 (m == 4) refl f0 f1 f2 is

    test_2 : (t : Bool) → (m == 2) ≡ t → (m == 0) ≡ false → (m == 1) ≡ false → IsMode m b i x
    test_2 true is f0 f1 =
        let (n, at, r) = bind_ok (number_at b i 4) (λ n. Ok (modes.DataMember (type_index_of n))) x (rw (f0, f1, is) at e) in
        let same : modes.DataMember (type_index_of n) ≡ x = cc in subst (IsMode m b i) same (eqb-true m 2 is, number_is b i 4 n at)
    test_2 false is f0 f1 = test_3 (m == 3) refl f0 f1 is

    test_1 : (t : Bool) → (m == 1) ≡ t → (m == 0) ≡ false → IsMode m b i x
    test_1 true is f0 = let q : ◌≡◌ {A = Result PointerMode Error} (Ok modes.LvalueReference) (Ok x) = rw (f0, is) at e in let same : modes.LvalueReference ≡ x = cc in subst (IsMode m b i) same (eqb-true m 1 is)
    test_1 false is f0 = test_2 (m == 2) refl f0 is

    test_0 : (t : Bool) → (m == 0) ≡ t → IsMode m b i x
    test_0 true is = let q : ◌≡◌ {A = Result PointerMode Error} (Ok modes.Pointer) (Ok x) = rw is at e in let same : modes.Pointer ≡ x = cc in subst (IsMode m b i) same (eqb-true m 0 is)
    test_0 false is = test_1 (m == 1) refl is

is_mode : (m : ℕ) (b : List ℕ) (i : ℕ) (x : PointerMode) → IsMode m b i x → mode_at m b i ≡ Ok x
is_mode m b i modes.Pointer h = rw h refl
is_mode m b i modes.LvalueReference h = rw h refl
is_mode m b i (modes.DataMember owner) h = rw (h.0, is_number b i 4 owner.0 h.1) refl
is_mode m b i (modes.MemberFunction owner) h = rw (h.0, is_number b i 4 owner.0 h.1) refl
is_mode m b i modes.RvalueReference h = rw h refl

pub mode_tells : (m : ℕ) → Tells (mode_part m)
mode_tells m = record { is = λ kind b i x e. mode_is m b i x e; reads = λ kind b i x h. is_mode m b i x h }

form_tells : (f : TypeForm) → Tells (laid_type f).layout
form_tells ModifierForm = search (then_tells, number_tells, number_as_tells) depth 8
form_tells VirtualTableShapeForm = number_tells 2
form_tells FieldListForm = nothing_tells
form_tells f = search (then_tells, behind_tells, together_tells, number_tells, number_as_tells, slice_tells, cstring_tells, rest_tells, numeric_tells, mode_tells) depth 12

pub of_is : (f : TypeForm) (b : List ℕ) (d : TypeSays) → read_of_type_form f b ≡ Ok (Some d) → IsOfTypeForm f b d
unfolding read_of_type_form
of_is f b d e = let (s, at, r) = bind_ok _ _ _ e in (s, (form_tells f).is 0 b 2 s at, cc)

pub is_of : (f : TypeForm) (b : List ℕ) (d : TypeSays) → IsOfTypeForm f b d → read_of_type_form f b ≡ Ok (Some d)
unfolding read_of_type_form
is_of f b d h = rw ((form_tells f).reads 0 b 2 h.0 h.1) (ap (λ (x : TypeSays). Ok (Some x)) (sym h.2))

-- what is read is something
none_made : {A B : Type 0} (r : Result A Error) (f : A → B) → (r >>= (λ s. Ok (Some (f s)))) ≡ Ok None → ⊥
none_made (Ok x) f e = absurd cc
none_made (Err d) f e = absurd cc

pub of_some : (f : TypeForm) (b : List ℕ) → read_of_type_form f b ≡ Ok None → ⊥
unfolding read_of_type_form
of_some f b e = none_made _ _ e

pub field_list_read : (b : List ℕ) → read_of_type_form FieldListForm b ≡ Ok (Some FieldList)
unfolding read_of_type_form
field_list_read b = refl
