-- What is read of a record of a form is what its parts say, and but for a constant's it is refused only at the end.
use Rattle.std.proofs.Common.{◌≡◌, ℕ, List, Ok, refl, sym, ap}
use Rattle.pdb_base.proofs.Places.{bind_ok, OnlyEof, bind_eof, ok_eof}
use Rattle.pdb_symbols.specs.declared.form.Form.{Form}
use Rattle.pdb_symbols.specs.declared.form.Form.TheVariants as form
use Rattle.pdb_symbols.specs.Data.{Data}
use Rattle.pdb_symbols.specs.Data.Data.{ScopeEnd, InlineSiteEnd, ProcedureEnd}
use Rattle.pdb_symbols.specs.FormTable.{laid, IsOf, read_of}
use Rattle.pdb_symbols.specs.Groups.{thunk_tail}
use Rattle.pdb_base.proofs.Layouts.{Tells, Ends, then_tells, behind_tells, together_tells, grouped_tells, by_kind_tells, given_tells, saying_tells, times_tells, nothing_tells, number_tells, number_as_tells, signed_tells, variant_tells, cstring_tells, rest_tells, then_ends, behind_ends, together_ends, grouped_ends, by_kind_ends, given_ends, saying_ends, times_ends, nothing_ends, number_ends, number_as_ends, signed_ends, cstring_ends, rest_ends}
use Rattle.pdb_symbols.proofs.Parts.{offset_tells, name_tells, optional_name_tells, offset_ends, name_ends, optional_name_ends}

thunk_tail_tells : (n : ℕ) → Tells (thunk_tail n)
unfolding thunk_tail
thunk_tail_tells n = search (then_tells, given_tells, saying_tells, number_tells, cstring_tells) depth 12

thunk_tail_ends : (n : ℕ) → Ends (thunk_tail n)
unfolding thunk_tail
thunk_tail_ends n = search (then_ends, given_ends, saying_ends, number_ends, cstring_ends) depth 12

form_tells : (f : Form) → Tells (laid f).layout
form_tells form.ScopeEnd = nothing_tells
form_tells f = search (then_tells, behind_tells, together_tells, grouped_tells, by_kind_tells, given_tells, times_tells, thunk_tail_tells, nothing_tells, number_tells, number_as_tells, signed_tells, offset_tells, variant_tells, name_tells, optional_name_tells, rest_tells) depth 16

-- a constant's is the only form that is refused otherwise than at the end
abbrev pub IsConstantOrEnds : Form → Type 0
IsConstantOrEnds form.Constant = Unit {0}
IsConstantOrEnds f = Ends (laid f).layout

pub form_ends : (f : Form) → IsConstantOrEnds f
form_ends form.Constant = tt
form_ends f = search (then_ends, behind_ends, together_ends, grouped_ends, by_kind_ends, given_ends, times_ends, thunk_tail_ends, nothing_ends, number_ends, number_as_ends, signed_ends, offset_ends, name_ends, optional_name_ends, rest_ends) depth 16

pub of_is : (f : Form) (kind : ℕ) (b : List ℕ) (d : Data) → read_of f kind b ≡ Ok d → IsOf f kind b d
unfolding read_of
of_is f kind b d e = let (s, at, r) = bind_ok _ _ _ e in (s, (form_tells f).is kind b 2 s at, cc)

pub is_of : (f : Form) (kind : ℕ) (b : List ℕ) (d : Data) → IsOf f kind b d → read_of f kind b ≡ Ok d
unfolding read_of
is_of f kind b d h = rw ((form_tells f).reads kind b 2 h.0 h.1) (ap Ok (sym h.2))

pub ends_of : (f : Form) → Ends (laid f).layout → (kind : ℕ) (b : List ℕ) → OnlyEof (read_of f kind b)
unfolding read_of
ends_of f h kind b = bind_eof _ _ (h.eof kind b 2) (λ s. ok_eof _)

-- ---- forms without fields

pub scope_end_read : (kind : ℕ) (b : List ℕ) → read_of form.ScopeEnd kind b ≡ Ok ScopeEnd
unfolding read_of
scope_end_read kind b = refl

pub inline_site_end_read : (kind : ℕ) (b : List ℕ) → read_of form.InlineSiteEnd kind b ≡ Ok InlineSiteEnd
unfolding read_of
inline_site_end_read kind b = refl

pub procedure_end_read : (kind : ℕ) (b : List ℕ) → read_of form.ProcedureEnd kind b ≡ Ok ProcedureEnd
unfolding read_of
procedure_end_read kind b = refl
