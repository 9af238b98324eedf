-- Where the names of records stand, by the layouts of their forms.
use Rattle.std.proofs.Common.{◌≡◌, ℕ, [], ◌+◌, ◌<◌, ◌≤◌, List, length, min, Option, Some, None, Result, Ok, Err, refl, sym, ap, ◌∙◌, inl, inr, arith, Bool, true, false, cond}
use Rattle.std.specs.Prelude.{nat_lt}
use Rattle.std.specs.Int.{w32, cast_signed}
use Rattle.std.proofs.lemmas.Bool.{cases_lt}
use Rattle.std.proofs.lemmas.Bool.Decides.{nat_tests}
use Rattle.std.proofs.lemmas.List.{drop_all}
use Rattle.pdb_base.specs.declared.error.Error.{Error}
use Rattle.pdb_base.specs.declared.error.Error.TheVariants.{UnexpectedEof}
use Rattle.pdb_base.specs.Refusal.{◌>>=◌}
use Rattle.pdb_base.specs.Fields.{number_at, signed_at, cstring_at, pascal_at}
use Rattle.pdb_base.specs.Fields as fields
use Rattle.pdb_base.specs.Layouts.{Part, ◌▷◌, together, together_at, number, number_as, signed}
use Rattle.pdb_base.proofs.Numbers.{number_there, number_not, cstring_not, cstring_within}
use Rattle.pdb_symbols.specs.declared.form.Form.{Form}
use Rattle.pdb_symbols.specs.declared.form.Form.TheVariants as form
use Rattle.pdb_symbols.specs.Data.{Data, name_of}
use Rattle.pdb_symbols.specs.Flags.{procedure_flags_of, local_flags_of, export_flags_of}
use Rattle.pdb_symbols.specs.FormTable.{laid, read_of}
use Rattle.pdb_symbols.specs.Forms.{kind_at, fields_at, record_at}
use Rattle.pdb_symbols.specs.Groups.{some_index, symbol_index_of, type_index_of, register_of, scope, body, typed, span}
use Rattle.pdb_symbols.specs.Headings.{form_of, title_of, heading_at, NameStandsAt, IsBare}
use Rattle.pdb_symbols.specs.Kinds.{row}
use Rattle.pdb_symbols.specs.Parts.{module_of, offset_at, name_at, optional_name_at, offset, name, optional_name}
use Rattle.pdb_symbols.proofs.FormTable.{of_is}

-- ---- a name past the end

pascal_within : (b : List ℕ) (p q : ℕ) → q ≡ min p (length b) → pascal_at b q ≡ pascal_at b p
unfolding pascal_at
pascal_within b p q e = elim (cases_lt (length b) p) [
  | inl h ↦ rw (number_not b q 1 (omega arith), number_not b p 1 (omega arith)) refl
  | inr h ↦ (let f : q ≡ p = omega arith in rw f refl)
]

pub name_within : (kind : ℕ) (b : List ℕ) (p q : ℕ) → q ≡ min p (length b) → name_at kind b q ≡ name_at kind b p
unfolding name_at
name_within kind b p q e = rw (pascal_within b p q e, cstring_within b p q e) refl

pascal_past : (b : List ℕ) (p : ℕ) → length b ≤ p → pascal_at b p ≡ Err UnexpectedEof
unfolding pascal_at
pascal_past b p h = rw (number_not b p 1 (omega arith)) refl

name_past : (kind : ℕ) (b : List ℕ) (p : ℕ) → length b ≤ p → name_at kind b p ≡ Err UnexpectedEof
unfolding name_at
name_past kind b p h = rw (pascal_past b p h, cstring_not b [] p (sym (drop_all p b h)) refl) (same (nat_lt kind 0x1100))
  where
    same : (t : Bool) → ◌≡◌ {A = Result (List ℕ) Error} (cond t (Err UnexpectedEof) (Err UnexpectedEof)) (Err UnexpectedEof)
    same true = refl
    same false = refl

-- ---- parts of one width

-- a part has w bytes: it is read where they are there, and else refused
pub record Wide {A : Type 0} (p : Part A) (w : ℕ) : Type 0 where
  pub there : (kind : ℕ) (b : List ℕ) (i : ℕ) → i + w ≤ length b → (x : A) × (p.at kind b i ≡ Ok x) × (p.width kind b i x ≡ w)
  pub not : (kind : ℕ) (b : List ℕ) (i : ℕ) → length b < i + w → p.at kind b i ≡ Err UnexpectedEof

number_wide : (w : ℕ) → Wide (number w) w
number_wide w = record {
  there = λ kind b i h. (fields.number b i w, number_there b i w _ h refl, refl);
  not = λ kind b i h. number_not b i w h;
}

number_as_wide : {A : Type 0} (w : ℕ) (f : ℕ → A) → Wide (number_as w f) w
number_as_wide w f = record {
  there = λ kind b i h. (f (fields.number b i w), rw (number_there b i w (fields.number b i w) h refl) refl, refl);
  not = λ kind b i h. rw (number_not b i w h) refl;
}

signed_there : (b : List ℕ) (i : ℕ) → i + 4 ≤ length b → signed_at b i w32 ≡ Ok (cast_signed w32 (fields.number b i 4))
unfolding signed_at
signed_there b i h = rw (number_there b i 4 (fields.number b i 4) h refl) refl

signed_not : (b : List ℕ) (i : ℕ) → length b < i + 4 → signed_at b i w32 ≡ Err UnexpectedEof
unfolding signed_at
signed_not b i h = rw (number_not b i 4 h) refl

signed_wide : Wide signed 4
signed_wide = record { there = λ kind b i h. (_, signed_there b i h, refl); not = λ kind b i h. signed_not b i h }

then_not : {A B : Type 0} (p : Part A) (q : Part B) (v w : ℕ) → Wide p v → Wide q w → (kind : ℕ) (b : List ℕ) (i : ℕ) → length b < i + (v + w) → (p ▷ q).at kind b i ≡ Err UnexpectedEof
then_not p q v w h k kind b i short = elim (cases_lt (length b) (i + v)) [
  | inl past ↦ rw (h.not kind b i past) refl
  | inr there ↦ (let (x, at, wide) = h.there kind b i there in rw (at, wide, k.not kind b (i + v) (omega arith)) refl)
]

both_read : {A B : Type 0} (p : Part A) (q : Part B) (v : ℕ) (kind : ℕ) (b : List ℕ) (i : ℕ) (x : A) (y : B) → p.at kind b i ≡ Ok x → p.width kind b i x ≡ v → q.at kind b (i + v) ≡ Ok y → (p ▷ q).at kind b i ≡ Ok (x, y)
both_read p q v kind b i x y at wide second = rw (at, wide, second) refl

both_width : {A B : Type 0} (p : Part A) (q : Part B) (v w : ℕ) (kind : ℕ) (b : List ℕ) (i : ℕ) (x : A) (y : B) → p.width kind b i x ≡ v → q.width kind b (i + v) y ≡ w → (p ▷ q).width kind b i (x, y) ≡ v + w
both_width p q v w kind b i x y wide width = rw (wide, width) refl

then_wide : {A B : Type 0} (p : Part A) (q : Part B) (v w : ℕ) → Wide p v → Wide q w → Wide (p ▷ q) (v + w)
then_wide p q v w h k = record {
  there = λ kind b i room.
      let (x, at, wide) = h.there kind b i (omega arith) in
      let (y, second, width) = k.there kind b (i + v) (omega arith) in
      ((x, y), both_read p q v kind b i x y at wide second, both_width p q v w kind b i x y wide width);
  not = λ kind b i short. then_not p q v w h k kind b i short;
}

together_same : {A : Type 0} (p : Part A) (b : List ℕ) (i : ℕ) → together_at p b i ≡ p.at 0 b i
unfolding together_at
together_same p b i = refl

together_wide : {A : Type 0} (p : Part A) (w : ℕ) → Wide p w → Wide (together p) w
together_wide p w h = record {
  there = λ kind b i room. (let (x, at, wide) = h.there 0 b i room in (x, together_same p b i ∙ at, wide));
  not = λ kind b i short. together_same p b i ∙ h.not 0 b i short;
}

offset_there : (b : List ℕ) (i : ℕ) → i + 6 ≤ length b → offset_at b i ≡ Ok (record { offset = fields.number b i 4; section = fields.number b (i + 4) 2 })
unfolding offset_at
offset_there b i room = rw (number_there b i 4 (fields.number b i 4) (omega arith) refl, number_there b (i + 4) 2 (fields.number b (i + 4) 2) (omega arith) refl) refl

offset_not : (b : List ℕ) (i : ℕ) → length b < i + 6 → offset_at b i ≡ Err UnexpectedEof
unfolding offset_at
offset_not b i short = elim (cases_lt (length b) (i + 4)) [
  | inl past ↦ rw (number_not b i 4 past) refl
  | inr there ↦ rw (number_there b i 4 (fields.number b i 4) there refl, number_not b (i + 4) 2 (omega arith)) refl
]

offset_wide : Wide offset 6
offset_wide = record { there = λ kind b i room. (_, offset_there b i room, refl); not = λ kind b i short. offset_not b i short }

-- ---- names behind parts of one width

-- what is read of a part is refused where the name that stands w bytes behind its start is, and else tells that name
pub record Names {A : Type 0} (p : Part A) (kind w : ℕ) (called : A → Option (List ℕ)) : Type 0 where
  pub reads : (b : List ℕ) (i : ℕ) → (p.at kind b i >>= (λ s. Ok (called s))) ≡ (name_at kind b (i + w) >>= (λ s. Ok (Some s)))

named_here : (kind : ℕ) (b : List ℕ) (i : ℕ) → ◌≡◌ {A = Result (Option (List ℕ)) Error} (name_at kind b i >>= (λ s. Ok (Some s))) (name_at kind b (i + 0) >>= (λ s. Ok (Some s)))
named_here kind b i = let same : i ≡ i + 0 = omega arith in ap (λ k. name_at kind b k >>= (λ s. Ok (Some s))) same

name_names : (kind : ℕ) → Names name kind 0 (λ s. Some s)
name_names kind = record { reads = λ b i. named_here kind b i }

told_again : (r : Result (List ℕ) Error) → ((r >>= (λ s. Ok (Some s))) >>= (λ s. Ok s)) ≡ (r >>= (λ s. Ok (Some s)))
told_again (Ok s) = refl
told_again (Err e) = refl

optional_told : (kind : ℕ) (b : List ℕ) (i : ℕ) → nat_lt kind 0x1100 ≡ false → (optional_name_at kind b i >>= (λ s. Ok s)) ≡ (name_at kind b i >>= (λ s. Ok (Some s)))
unfolding optional_name_at name_at
optional_told kind b i h = rw h (told_again (cstring_at b i))

optional_names : (kind : ℕ) → 0x1100 ≤ kind → Names optional_name kind 0 (λ s. s)
optional_names kind h =
    let newer : nat_lt kind 0x1100 ≡ false = grind (arith, nat_tests) in
    record { reads = λ b i. optional_told kind b i newer ∙ named_here kind b i }

-- what is told of a pair is told of its second
second_told : {A B : Type 0} (x : A) (r : Result B Error) (f : B → Option (List ℕ)) → ◌>>=◌ {A = A × B} (r >>= (λ y. Ok (x, y))) (λ s. Ok (f s.1)) ≡ (r >>= (λ y. Ok (f y)))
second_told x (Ok y) f = refl
second_told x (Err e) f = refl

then_reads : {A B : Type 0} (p : Part A) (q : Part B) (kind v w : ℕ) (f : B → Option (List ℕ)) → Wide p v → Names q kind w f → (b : List ℕ) (i : ℕ) → ((p ▷ q).at kind b i >>= (λ s. Ok (f s.1))) ≡ (name_at kind b (i + (v + w)) >>= (λ s. Ok (Some s)))
then_reads p q kind v w f h k b i = elim (cases_lt (length b) (i + v)) [
  | inl past ↦ rw (h.not kind b i past, name_past kind b (i + (v + w)) (omega arith)) refl
  | inr there ↦ (
      let (x, at, wide) = h.there kind b i there in
      let same : i + v + w ≡ i + (v + w) = omega arith in
      rw (at, wide) (second_told x (q.at kind b (i + v)) f ∙ k.reads b (i + v) ∙ ap (λ m. name_at kind b m >>= (λ s. Ok (Some s))) same)
      )
]

then_names : {A B : Type 0} (p : Part A) (q : Part B) (kind v w : ℕ) (f : B → Option (List ℕ)) → Wide p v → Names q kind w f → Names (p ▷ q) kind (v + w) (λ s. f s.1)
then_names p q kind v w f h k = record { reads = λ b i. then_reads p q kind v w f h k b i }

-- a form's title is told by its name, where its layout names one and all that it says has that title
title_told : {A : Type 0} (r : Result A Error) (n : Result (List ℕ) Error) (says : A → Data) (f : Form) (called : A → Option (List ℕ)) → (r >>= (λ s. Ok (called s))) ≡ (n >>= (λ s. Ok (Some s))) → ((s : A) → title_of (says s) ≡ (f, called s)) → ((r >>= (λ s. Ok (says s))) >>= (λ d. Ok (title_of d))) ≡ (n >>= (λ s. Ok (f, Some s)))
title_told (Ok s) (Ok m) says f called e same = let title = same s in let name : called s ≡ Some m = cc in rw (title, name) refl
title_told (Ok s) (Err d) says f called e same = absurd cc
title_told (Err d) (Ok m) says f called e same = absurd cc
title_told (Err d) (Err x) says f called e same = let y : d ≡ x = cc in rw y refl

stands : (f : Form) (kind w : ℕ) (called : (laid f).Parts → Option (List ℕ)) → Names (laid f).layout kind w called → ((s : (laid f).Parts) → title_of ((laid f).says kind s) ≡ (f, called s)) → NameStandsAt f kind (2 + w)
unfolding read_of
stands f kind w called h same = λ b. title_told ((laid f).layout.at kind b 2) (name_at kind b (2 + w)) ((laid f).says kind) f called (h.reads b 2) same

-- ---- the forms

scope_wide : Wide scope 12
scope_wide = together_wide _ 12 (then_wide _ _ 4 8 (number_as_wide 4 some_index) (then_wide _ _ 4 4 (number_as_wide 4 symbol_index_of) (number_as_wide 4 some_index)))

body_wide : Wide body 12
body_wide = together_wide _ 12 (then_wide _ _ 4 8 (number_wide 4) (then_wide _ _ 4 4 (number_wide 4) (number_wide 4)))

typed_wide : Wide typed 11
typed_wide = together_wide _ 11 (then_wide _ _ 4 7 (number_as_wide 4 type_index_of) (then_wide _ _ 6 1 offset_wide (number_as_wide 1 procedure_flags_of)))

span_wide : Wide span 12
span_wide = together_wide _ 12 (then_wide _ _ 4 8 (number_as_wide 4 symbol_index_of) (then_wide _ _ 4 4 (number_as_wide 4 symbol_index_of) (number_wide 4)))

pub using_namespace_name : (kind : ℕ) → NameStandsAt form.UsingNamespace kind 2
using_namespace_name kind = stands form.UsingNamespace kind 0 _ (name_names kind) (λ s. refl)

pub obj_name_name : (kind : ℕ) → NameStandsAt form.ObjName kind 6
obj_name_name kind = stands form.ObjName kind 4 _ (then_names _ _ kind 4 0 _ (number_wide 4) (name_names kind)) (λ s. refl)

pub user_defined_type_name : (kind : ℕ) → NameStandsAt form.UserDefinedType kind 6
user_defined_type_name kind = stands form.UserDefinedType kind 4 _ (then_names _ _ kind 4 0 _ (number_as_wide 4 type_index_of) (name_names kind)) (λ s. refl)

pub export_name : (kind : ℕ) → NameStandsAt form.Export kind 6
export_name kind = stands form.Export kind 4 _ (then_names _ _ kind 2 2 _ (number_wide 2) (then_names _ _ kind 2 0 _ (number_as_wide 2 export_flags_of) (name_names kind))) (λ s. refl)

pub local_name : (kind : ℕ) → NameStandsAt form.Local kind 8
local_name kind = stands form.Local kind 6 _ (then_names _ _ kind 4 2 _ (number_as_wide 4 type_index_of) (then_names _ _ kind 2 0 _ (number_as_wide 2 local_flags_of) (name_names kind))) (λ s. refl)

pub label_name : (kind : ℕ) → NameStandsAt form.Label kind 9
label_name kind = stands form.Label kind 7 _ (then_names _ _ kind 6 1 _ offset_wide (then_names _ _ kind 1 0 _ (number_as_wide 1 procedure_flags_of) (name_names kind))) (λ s. refl)

pub data_name : (kind : ℕ) → NameStandsAt form.Data kind 12
data_name kind = stands form.Data kind 10 _ (then_names _ _ kind 4 6 _ (number_as_wide 4 type_index_of) (then_names _ _ kind 6 0 _ offset_wide (name_names kind))) (λ s. refl)

pub public_name : (kind : ℕ) → NameStandsAt form.Public kind 12
public_name kind = stands form.Public kind 10 _ (then_names _ _ kind 4 6 _ (number_wide 4) (then_names _ _ kind 6 0 _ offset_wide (name_names kind))) (λ s. refl)

pub thread_storage_name : (kind : ℕ) → NameStandsAt form.ThreadStorage kind 12
thread_storage_name kind = stands form.ThreadStorage kind 10 _ (then_names _ _ kind 4 6 _ (number_as_wide 4 type_index_of) (then_names _ _ kind 6 0 _ offset_wide (name_names kind))) (λ s. refl)

pub register_relative_name : (kind : ℕ) → NameStandsAt form.RegisterRelative kind 12
register_relative_name kind = stands form.RegisterRelative kind 10 _ (then_names _ _ kind 4 6 _ signed_wide (then_names _ _ kind 4 2 _ (number_as_wide 4 type_index_of) (then_names _ _ kind 2 0 _ (number_as_wide 2 register_of) (name_names kind)))) (λ s. refl)

pub annotation_reference_name : (kind : ℕ) → NameStandsAt form.AnnotationReference kind 12
annotation_reference_name kind = stands form.AnnotationReference kind 10 _ (then_names _ _ kind 4 6 _ (number_wide 4) (then_names _ _ kind 4 2 _ (number_as_wide 4 symbol_index_of) (then_names _ _ kind 2 0 _ (number_as_wide 2 module_of) (name_names kind)))) (λ s. refl)

pub block_name : (kind : ℕ) → NameStandsAt form.Block kind 20
block_name kind = stands form.Block kind 18 _ (then_names _ _ kind 12 6 _ span_wide (then_names _ _ kind 6 0 _ offset_wide (name_names kind))) (λ s. refl)

pub procedure_name : (kind : ℕ) → NameStandsAt form.Procedure kind 37
procedure_name kind = stands form.Procedure kind 35 _ (then_names _ _ kind 12 23 _ scope_wide (then_names _ _ kind 12 11 _ body_wide (then_names _ _ kind 11 0 _ typed_wide (name_names kind)))) (λ s. refl)

-- names of references in the newer kinds
pub procedure_reference_name : (kind : ℕ) → 0x1100 ≤ kind → NameStandsAt form.ProcedureReference kind 12
procedure_reference_name kind h = stands form.ProcedureReference kind 10 _ (then_names _ _ kind 4 6 _ (number_wide 4) (then_names _ _ kind 4 2 _ (number_as_wide 4 symbol_index_of) (then_names _ _ kind 2 0 _ (number_as_wide 2 module_of) (optional_names kind h)))) (λ s. refl)

pub data_reference_name : (kind : ℕ) → 0x1100 ≤ kind → NameStandsAt form.DataReference kind 12
data_reference_name kind h = stands form.DataReference kind 10 _ (then_names _ _ kind 4 6 _ (number_wide 4) (then_names _ _ kind 4 2 _ (number_as_wide 4 symbol_index_of) (then_names _ _ kind 2 0 _ (number_as_wide 2 module_of) (optional_names kind h)))) (λ s. refl)

-- ---- forms without fields

pub scope_end_bare : IsBare form.ScopeEnd
unfolding read_of
scope_end_bare kind b = refl

pub inline_site_end_bare : IsBare form.InlineSiteEnd
unfolding read_of
inline_site_end_bare kind b = refl

pub procedure_end_bare : IsBare form.ProcedureEnd
unfolding read_of
procedure_end_bare kind b = refl

-- ---- records that are read whole

form_says : (f : Form) (kind : ℕ) (s : (laid f).Parts) → form_of ((laid f).says kind s) ≡ f
form_says form.ScopeEnd kind s = refl
form_says f kind s = refl

form_read : (f : Form) (kind : ℕ) (b : List ℕ) (d : Data) → read_of f kind b ≡ Ok d → form_of d ≡ f
form_read f kind b d e = let (s, at, says) = of_is f kind b d e in rw says (form_says f kind s)

whole_form : (o : Option Form) (f : Form) (kind : ℕ) (b : List ℕ) (d : Data) → o ≡ Some f → fields_at o kind b ≡ Ok d → form_of d ≡ f
whole_form None f kind b d h e = absurd cc
whole_form (Some g) f kind b d h e = let same : g ≡ f = cc in form_read g kind b d e ∙ same

-- the form by the kind, and the name of what was read, head the record
pub whole_read : (b : List ℕ) (f : Form) (d : Data) (called : Option (List ℕ)) → row (kind_at b) ≡ Some f → record_at b ≡ Ok d → called ≡ name_of d → heading_at b ≡ Ok (f, called)
whole_read b f d called h e same =
    let form : form_of d ≡ f = whole_form (row (kind_at b)) f (kind_at b) b d h e in
    rw (e, same, ← form) refl
