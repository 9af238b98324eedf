-- What is read of a whole record.
use Rattle.std.proofs.Common.{◌≡◌, ℕ, ◌+◌, false, List, Option, Some, None, Ok, Err, refl, ap, ◌∙◌, ◌⊎◌, inl, inr, arith}
use Rattle.pdb_base.specs.declared.error.Error.{Error}
use Rattle.pdb_base.specs.declared.error.Error.TheVariants.{UnexpectedEof, UnimplementedSymbolKind, UnexpectedNumericPrefix}
use Rattle.pdb_base.specs.Fields.{number, is_listed, variant_width}
use Rattle.pdb_base.specs.Places.{IsNumber}
use Rattle.pdb_base.proofs.Places.{bind_eof, ok_eof, number_eof}
use Rattle.pdb_base.proofs.Variants.{Refuses, bind_refuses, eof_refuses, variant_refuses, unlisted_refused}
use Rattle.pdb_base.proofs.Numbers.{number_there}
use Rattle.pdb_symbols.specs.declared.form.Form.{Form}
use Rattle.pdb_symbols.specs.declared.form.Form.TheVariants as form
use Rattle.pdb_symbols.specs.Kinds.{row}
use Rattle.pdb_symbols.specs.Data.{Data}
use Rattle.pdb_symbols.specs.FormTable.{read_of}
use Rattle.pdb_base.specs.Layouts.{together_at}
use Rattle.pdb_symbols.specs.Forms.{kind_at, IsForm, Is, IsUnlistedPrefix, Refusal, fields_at, record_at}
use Rattle.pdb_symbols.proofs.Parts.{name_eof}
use Rattle.pdb_symbols.proofs.FormTable.{of_is, is_of, form_ends, ends_of}

fields_are : (f : Option Form) (kind : ℕ) (b : List ℕ) (d : Data) → fields_at f kind b ≡ Ok d → IsForm f kind b d
fields_are None kind b d e = absurd cc
fields_are (Some f) kind b d e = of_is f kind b d e

are_fields : (f : Option Form) (kind : ℕ) (b : List ℕ) (d : Data) → IsForm f kind b d → fields_at f kind b ≡ Ok d
are_fields None kind b d h = absurd h
are_fields (Some f) kind b d h = is_of f kind b d h

pub record_is : (b : List ℕ) (d : Data) → record_at b ≡ Ok d → Is b d
record_is b d e = fields_are (row (kind_at b)) (kind_at b) b d e

pub is_record : (b : List ℕ) (d : Data) → Is b d → record_at b ≡ Ok d
is_record b d h = are_fields (row (kind_at b)) (kind_at b) b d h

-- how the fields of a form may be refused
abbrev RefusedBy : Option Form → ℕ → List ℕ → Error → Type 0
RefusedBy f kind b e = (e ≡ UnexpectedEof) ⊎ (((f ≡ None) × (e ≡ UnimplementedSymbolKind kind)) ⊎ ((n : ℕ) × (f ≡ Some form.Constant) × IsNumber b 6 2 n × (is_listed n ≡ false) × (e ≡ UnexpectedNumericPrefix n)))

ConstantRefusal : List ℕ → Error → Type 0
ConstantRefusal b e = (e ≡ UnexpectedEof) ⊎ ((n : ℕ) × IsNumber b 6 2 n × (is_listed n ≡ false) × (e ≡ UnexpectedNumericPrefix n))

constant_refuses : (kind : ℕ) (b : List ℕ) → Refuses (ConstantRefusal b) (read_of form.Constant kind b)
unfolding read_of together_at ConstantRefusal
constant_refuses kind b =
    let P : Error → Type 0 = ConstantRefusal b in
    bind_refuses P _ _ (bind_refuses P _ _
    (bind_refuses P _ _ (eof_refuses _ _ (inl refl) (bind_eof _ _ (number_eof b 2 4) (λ _. ok_eof _)))
    (λ _ _. bind_refuses P _ _ (variant_refuses b 6) (λ _ _. eof_refuses _ _ (inl refl) (ok_eof _))))
    (λ x _. eof_refuses _ _ (inl refl) (bind_eof _ _ (name_eof kind b (2 + (4 + variant_width b 6))) (λ _. ok_eof _))))
    (λ _ _. eof_refuses _ _ (inl refl) (ok_eof _))

fields_refused : (f : Option Form) (kind : ℕ) (b : List ℕ) (e : Error) → fields_at f kind b ≡ Err e → RefusedBy f kind b e
unfolding ConstantRefusal
fields_refused None kind b e h = inr (inl (refl, cc))
fields_refused (Some form.Constant) kind b e h = elim (constant_refuses kind b e h) [ inl p ↦ inl p | inr p ↦ inr (inr (p.0, refl, p.1, p.2, p.3)) ]
fields_refused (Some f) kind b e h = inl (ends_of f (form_ends f) kind b e h)

pub record_refused : (b : List ℕ) (e : Error) → record_at b ≡ Err e → Refusal b e
record_refused b e h = elim (fields_refused (row (kind_at b)) (kind_at b) b e h) [
  | inl p ↦ inl p
  | inr p ↦ elim p [
    | inl q ↦ inr (inl q)
    | inr q ↦ inr (inr (q.0, record { constant = q.1; there = q.2; unlisted = q.3 }, q.4))
  ]
]

pub no_row : (b : List ℕ) → row (kind_at b) ≡ None → record_at b ≡ Err (UnimplementedSymbolKind (kind_at b))
no_row b h = ap (λ f. fields_at f (kind_at b) b) h

constant_unlisted : (kind : ℕ) (b : List ℕ) (n : ℕ) → IsNumber b 6 2 n → is_listed n ≡ false → read_of form.Constant kind b ≡ Err (UnexpectedNumericPrefix n)
unfolding read_of together_at
constant_unlisted kind b n at h =
    let e = unlisted_refused b 6 n at h in
    let room = at.there in
    let first = number_there b 2 4 (number b 2 4) (omega arith) refl in
    rw (first, e) refl

pub unlisted : (b : List ℕ) (n : ℕ) → IsUnlistedPrefix b n → record_at b ≡ Err (UnexpectedNumericPrefix n)
unlisted b n h = ap (λ f. fields_at f (kind_at b) b) h.constant ∙ constant_unlisted (kind_at b) b n h.there h.unlisted
