-- The clauses of reading a type record, from what is read.
use Rattle.std.proofs.Common.{◌≡◌, ℕ, List, Option, Some, None, Result, Ok, Err, refl, ap}
use Rattle.std.specs.Prelude.{◌↔◌, IfOk, IfSome, IsOkAnd}
use Rattle.std.specs.Option.{option_map}
use Rattle.pdb_base.specs.declared.error.Error.{Error}
use Rattle.pdb_base.specs.Refusal.{Answers}
use Rattle.pdb_items.specs.Ids.{kind_at}
use Rattle.pdb_types.specs.declared.type_data.TypeData.{TypeData}
use Rattle.pdb_types.specs.TypeSays.{TypeSays}
use Rattle.pdb_types.specs.TypeRows.{TypeForm, type_form_of}
use Rattle.pdb_types.specs.TypeReading.{HasTypeForm, IsType, type_fields_at, type_at, shown_type}
use Rattle.pdb_types.proofs.LaidTypes.{of_is, is_of, of_some}

fields_are : (f : Option TypeForm) (b : List ℕ) (d : TypeSays) → type_fields_at f b ≡ Ok (Some d) → HasTypeForm f b d
fields_are None b d e = absurd cc
fields_are (Some f) b d e = of_is f b d e

are_fields : (f : Option TypeForm) (b : List ℕ) (d : TypeSays) → HasTypeForm f b d → type_fields_at f b ≡ Ok (Some d)
are_fields None b d h = absurd h
are_fields (Some f) b d h = is_of f b d h

no_fields : (f : Option TypeForm) (b : List ℕ) → type_fields_at f b ≡ Ok None → f ≡ None
no_fields None b e = refl
no_fields (Some f) b e = absurd (of_some f b e)

pub type_is : (b : List ℕ) (d : TypeSays) → type_at b ≡ Ok (Some d) → IsType b d
type_is b d e = fields_are (type_form_of (kind_at b)) b d e

pub is_type : (b : List ℕ) (d : TypeSays) → IsType b d → type_at b ≡ Ok (Some d)
is_type b d h = are_fields (type_form_of (kind_at b)) b d h

pub type_none : (b : List ℕ) → type_at b ≡ Ok None → type_form_of (kind_at b) ≡ None
type_none b e = no_fields (type_form_of (kind_at b)) b e

pub none_type : (b : List ℕ) → type_form_of (kind_at b) ≡ None → type_at b ≡ Ok None
none_type b e = ap (λ f. type_fields_at f b) e

-- ---- the clauses

abbrev Parsed : Result (Option TypeData) Error → List ℕ → Type 0
Parsed r b = Answers (option_map shown_type) r (type_at b)

pub found_of : (r : Result (Option TypeData) Error) (b : List ℕ) → Parsed r b → IfOk r (λ o. IfSome o (λ d. IsType b (shown_type d)))
found_of (Ok (Some d)) b h = type_is b (shown_type d) h
found_of (Ok None) b h = tt
found_of (Err e) b h = tt

pub only_of : (r : Result (Option TypeData) Error) (b : List ℕ) → Parsed r b → (d : TypeSays) → IsType b d → IsOkAnd r (λ o. option_map shown_type o ≡ Some d)
only_of (Ok o) b h d says = let e = is_type b d says in cc
only_of (Err e) b h d says = let q = is_type b d says in let p = h.0 in absurd cc

pub kind_of : (r : Result (Option TypeData) Error) (b : List ℕ) → Parsed r b → IsOkAnd r (λ o. option_map shown_type o ≡ None) ↔ (type_form_of (kind_at b) ≡ None)
kind_of (Ok o) b h = (
  λ e. type_none b (let q : option_map shown_type o ≡ None = e in cc),
  λ e. (let q = none_type b e in cc),
)
kind_of (Err d) b h = (λ e. absurd e, λ e. (let q = none_type b e in let p = h.0 in absurd cc))
