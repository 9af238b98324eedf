-- What is read of an entry of a list of members is what its parts say.
use Rattle.std.proofs.Common.{◌≡◌, ℕ, ◌+◌, ◌≤◌, List, length, Option, Some, None, Result, Ok, refl, sym, ap, ◌∙◌}
use Rattle.pdb_base.specs.declared.error.Error.{Error}
use Rattle.pdb_base.specs.Refusal.{◌>>=◌}
use Rattle.pdb_base.specs.Fields.{number_at, bytes_at}
use Rattle.pdb_base.specs.Layouts.{width_read}
use Rattle.pdb_base.proofs.Numbers.{bytes_there}
use Rattle.pdb_base.proofs.Places.{bind_ok, number_is, is_number, slice_is}
use Rattle.pdb_base.proofs.Variants.{variant_is, is_variant}
use Rattle.pdb_base.proofs.Layouts.{Tells, then_tells, behind_tells, together_tells, given_tells, number_tells, number_as_tells, signed_tells, slice_tells, cstring_tells}
use Rattle.pdb_types.specs.MemberSays.{EntrySays}
use Rattle.pdb_types.specs.MemberRows.{FoundEntry, MemberForm, laid_member, entry_at, entry_of, form_at, form_width, member_form_of, padded, padding_at, signed_variant}
use Rattle.pdb_types.specs.MemberRows.MemberForm.{GoesOnForm, TablePointerForm, FriendClassForm}
use Rattle.pdb_types.specs.MemberPlaces.{IsEntry}

variant_tells : Tells signed_variant
variant_tells = record {
  is = λ kind b i n e. let (v, e1, r1) = bind_ok _ _ _ e in (v, variant_is b i v e1, cc);
  reads = λ kind b i n h. rw (is_variant b i h.0 h.1) (ap Ok (sym h.2));
}

form_tells : (f : MemberForm) → Tells (laid_member f).layout
form_tells GoesOnForm = search (then_tells, together_tells, number_as_tells) depth 8
form_tells TablePointerForm = search (then_tells, together_tells, number_as_tells) depth 8
form_tells FriendClassForm = search (then_tells, together_tells, number_as_tells) depth 8
form_tells f = search (then_tells, behind_tells, together_tells, given_tells, number_tells, number_as_tells, signed_tells, slice_tells, cstring_tells, variant_tells) depth 12

-- ---- the fields

form_is : (f : MemberForm) (b : List ℕ) (i : ℕ) (y : EntrySays) → form_at f b i ≡ Ok y → (s : (laid_member f).Parts) × ((laid_member f).layout.at 0 b i ≡ Ok s) × (y ≡ (laid_member f).says s)
unfolding form_at
form_is f b i y e = let (s, there, rest) = bind_ok ((laid_member f).layout.at 0 b i) (λ s. Ok ((laid_member f).says s)) y e in (s, there, cc)

is_form : (f : MemberForm) (b : List ℕ) (i : ℕ) (s : (laid_member f).Parts) → (laid_member f).layout.at 0 b i ≡ Ok s → form_at f b i ≡ Ok ((laid_member f).says s)
unfolding form_at
is_form f b i s e = rw e refl

form_ends : (f : MemberForm) (b : List ℕ) (i : ℕ) (s : (laid_member f).Parts) → (laid_member f).layout.at 0 b i ≡ Ok s → form_width f b i ≡ (laid_member f).layout.width 0 b i s
unfolding form_width
form_ends f b i s e = ap (width_read (laid_member f).layout 0 b i) e

-- ---- an entry

padded_is : (b : List ℕ) (q : ℕ) (y : EntrySays) (x : FoundEntry) → padded b q y ≡ Ok x → (x.entry ≡ y) × (x.end ≡ q + padding_at b q) × (x.end ≤ length b)
padded_is b q y x e =
    let (s, there, rest) = bind_ok (bytes_at b q (padding_at b q)) (λ s. Ok (record { entry = y; end = q + padding_at b q })) x e in
    let is : record { entry = y; end = q + padding_at b q } ≡ x = cc in
    let slice = slice_is b q (padding_at b q) s there in
    rw (← is) (refl, refl, slice.there)

is_padded : (b : List ℕ) (q : ℕ) (y : EntrySays) (x : FoundEntry) → x.entry ≡ y → x.end ≡ q + padding_at b q → x.end ≤ length b → padded b q y ≡ Ok x
is_padded b q y x is ends there =
    let read = bytes_there b q (padding_at b q) (rw (← ends) there) in
    ap (λ (r : Result (List ℕ) Error). r >>= (λ s. Ok (record { entry = y; end = q + padding_at b q }))) read ∙ (λ i. Ok (record { entry = sym is i; end = sym ends i }))

of_kind : (kind : ℕ) (o : Option MemberForm) (b : List ℕ) (p : ℕ) (x : FoundEntry) → member_form_of kind ≡ o → number_at b p 2 ≡ Ok kind → entry_of o b (p + 2) ≡ Ok x → IsEntry b p x
of_kind kind None b p x listed begins e = absurd cc
of_kind kind (Some f) b p x listed begins e =
    let (y, there, rest) = bind_ok (form_at f b (p + 2)) (λ y. padded b (p + 2 + form_width f b (p + 2)) y) x e in
    let (s, reads, says) = form_is f b (p + 2) y there in
    let (is, ends, inside) = padded_is b (p + 2 + form_width f b (p + 2)) y x rest in
    let width = form_ends f b (p + 2) s reads in
    record {
      kind = kind;
      form = f;
      parts = s;
      begins = number_is b p 2 kind begins;
      listed = listed;
      stand = (form_tells f).is 0 b (p + 2) s reads;
      says = is ∙ says;
      ends = ends ∙ ap (λ (w : ℕ). p + 2 + w + padding_at b (p + 2 + w)) width;
      there = inside;
    }

pub entry_is : (b : List ℕ) (p : ℕ) (x : FoundEntry) → entry_at b p ≡ Ok x → IsEntry b p x
unfolding entry_at
entry_is b p x e =
    let (kind, begins, rest) = bind_ok (number_at b p 2) (λ kind. entry_of (member_form_of kind) b (p + 2)) x e in
    of_kind kind (member_form_of kind) b p x refl begins rest

pub is_entry : (b : List ℕ) (p : ℕ) (x : FoundEntry) → IsEntry b p x → entry_at b p ≡ Ok x
unfolding entry_at
is_entry b p x h =
    let reads = (form_tells h.form).reads 0 b (p + 2) h.parts h.stand in
    let width = form_ends h.form b (p + 2) h.parts reads in
    let end : x.end ≡ p + 2 + form_width h.form b (p + 2) + padding_at b (p + 2 + form_width h.form b (p + 2)) = h.ends ∙ ap (λ (w : ℕ). p + 2 + w + padding_at b (p + 2 + w)) (sym width) in
    rw (is_number b p 2 h.kind h.begins, h.listed, is_form h.form b (p + 2) h.parts reads) (is_padded b (p + 2 + form_width h.form b (p + 2)) ((laid_member h.form).says h.parts) x h.says end h.there)
