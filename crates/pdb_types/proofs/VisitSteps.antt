-- What records of qualifiers say, and what the reading of records costs.
use Rattle.std.proofs.Common.{◌≡◌, ℕ, ◌+◌, ◌≤◌, ◌<◌, List, length, Bool, true, false, Option, Some, None, Result, Ok, Err, refl, ◌*◌, inl, inr, arith}
use Rattle.std.specs.Prelude.{◌&&◌, not, OnOk}
use Rattle.std.proofs.lemmas.Bool.{cases_lt}
use Rattle.pdb_base.specs.declared.error.Error.{Error}
use Rattle.pdb_base.specs.Refusal.{◌>>=◌}
use Rattle.pdb_items.specs.Items.{ItemEntry, item_with}
use Rattle.pdb_items.specs.Ids.{kind_at}
use Rattle.pdb_types.specs.TypeSays.{TypeSays}
use Rattle.pdb_types.specs.TypeRows.{TypeForm, laid_type, read_of_type_form, type_form_of}
use Rattle.pdb_types.specs.TypeRows.TypeForm.{ModifierForm, PointerForm, ArrayForm, BitfieldForm, ProcedureForm, MemberFunctionForm, ArgumentListForm, ClassForm, UnionForm, EnumerationForm, VirtualTableShapeForm, FieldListForm, AliasForm}
use Rattle.pdb_types.specs.TypeReading.{type_fields_at}
use Rattle.pdb_types.specs.FullTypes.{said_type, says_of, says_of_item}
use Rattle.pdb_types.specs.declared.pointer.Qualifiers.{Qualifiers}
use Rattle.pdb_types.specs.Cuts.{IsCut}
use Rattle.pdb_types.specs.TypeFlags.{is_unqualified}
use Rattle.pdb_types.specs.TypeTexts.{plain_before, plain_behind, rare_behind, words_before, words_behind}
use Rattle.pdb_types.specs.Visits.{Bounded, Paid, is_restricted}
use Rattle.pdb_types.proofs.CutLemmas.{cut_whole}

bound : {A : Type 0} (r : Result A Error) (f : A → TypeSays) → ((x : A) → is_restricted (Some (f x)) ≡ false) → is_restricted (said_type (r >>= (λ s. Ok (Some (f s))))) ≡ false
bound (Ok x) f h = h x
bound (Err e) f h = refl

read : (f : TypeForm) (b : List ℕ) → ((x : (laid_type f).Parts) → is_restricted (Some ((laid_type f).says x)) ≡ false) → is_restricted (said_type (read_of_type_form f b)) ≡ false
unfolding read_of_type_form
read f b h = bound ((laid_type f).layout.at 0 b 2) (laid_type f).says h

of_form : (f : TypeForm) (b : List ℕ) → is_restricted (said_type (read_of_type_form f b)) ≡ false
of_form ModifierForm b = read ModifierForm b (λ x. refl)
of_form PointerForm b = read PointerForm b (λ x. refl)
of_form ArrayForm b = read ArrayForm b (λ x. refl)
of_form BitfieldForm b = read BitfieldForm b (λ x. refl)
of_form ProcedureForm b = read ProcedureForm b (λ x. refl)
of_form MemberFunctionForm b = read MemberFunctionForm b (λ x. refl)
of_form ArgumentListForm b = read ArgumentListForm b (λ x. refl)
of_form ClassForm b = read ClassForm b (λ x. refl)
of_form UnionForm b = read UnionForm b (λ x. refl)
of_form EnumerationForm b = read EnumerationForm b (λ x. refl)
of_form VirtualTableShapeForm b = read VirtualTableShapeForm b (λ x. refl)
of_form FieldListForm b = read FieldListForm b (λ x. refl)
of_form AliasForm b = read AliasForm b (λ x. refl)

of_forms : (f : Option TypeForm) (b : List ℕ) → is_restricted (said_type (type_fields_at f b)) ≡ false
of_forms None b = refl
of_forms (Some f) b = of_form f b

of_item : (o : Option ItemEntry) → is_restricted (says_of_item o) ≡ false
of_item None = refl
of_item (Some x) = of_forms (type_form_of (kind_at x.bytes)) x.bytes

pub unrestricted : (types : List ItemEntry) (i : ℕ) (says : Option TypeSays) → says ≡ says_of types i → is_restricted says ≡ false
unrestricted types i says e = rw e (of_item (item_with types i))

-- ---- words pay for the question on which side they stand

some_before : (a b c d : Bool) → d ≡ false → (not a && not b && not c && not d) ≡ false → 0 < length (words_before (record { is_const = a; is_volatile = b; is_unaligned = c; is_restrict = d }))
unfolding plain_before
some_before true true c d e f = omega arith
some_before true false c d e f = omega arith
some_before false true c d e f = omega arith
some_before false false true d e f = omega arith
some_before false false false true e f = absurd cc
some_before false false false false e f = absurd cc

pub words_some_before : (q : Qualifiers) → q.is_restrict ≡ false → is_unqualified q ≡ false → 0 < length (words_before q)
words_some_before q e f = some_before q.is_const q.is_volatile q.is_unaligned q.is_restrict e f

some_behind : (a b c d : Bool) → (not a && not b && not c && not d) ≡ false → 0 < length (words_behind (record { is_const = a; is_volatile = b; is_unaligned = c; is_restrict = d }))
unfolding plain_behind rare_behind
some_behind true b c d f = omega arith
some_behind false true c d f = omega arith
some_behind false false true d f = omega arith
some_behind false false false true f = omega arith
some_behind false false false false f = absurd cc

pub words_some_behind : (q : Qualifiers) → is_unqualified q ≡ false → 0 < length (words_behind q)
words_some_behind q f = some_behind q.is_const q.is_volatile q.is_unaligned q.is_restrict f

pub behind_paid : {E : Type 0} (r : Result (Unit {0}) E) (limit depth asked before after : ℕ) (old middle words now : List ℕ) → depth < 64 → asked ≤ before + depth → 0 < length words → (length middle < limit → Paid depth asked after old middle) → OnOk r (IsCut limit middle words now)
    → OnOk r (length now < limit → Paid depth before after old now)
behind_paid (Err e) limit depth asked before after old middle words now deep few some front cut = cut
behind_paid (Ok x) limit depth asked before after old middle words now deep few some front cut = λ below.
    let longer = cut_whole limit middle words now cut below in
    let paid = front (omega (arith, longer, below)) in
    omega (arith, longer, paid, deep, few, some)

pub before_paid : {E : Type 0} (r : Result (Unit {0}) E) (limit depth asked before after : ℕ) (old words middle front now : List ℕ) → depth < 64 → asked ≤ before + depth → 0 < length words → IsCut limit old words middle → OnOk r (IsCut limit middle front now) → OnOk r (length now < limit → Paid depth asked after middle now)
    → OnOk r (length now < limit → Paid depth before after old now)
before_paid (Err e) limit depth asked before after old words middle front now deep few some cut behind paid = paid
before_paid (Ok x) limit depth asked before after old words middle front now deep few some cut behind paid = λ below.
    let grows = behind.grows in
    let longer = cut_whole limit old words middle cut (omega (arith, grows, below)) in
    let last = paid below in
    omega (arith, longer, last, deep, few, some)

-- ---- one argument of a list more, with a comma

pub one_paid : (limit depth first before after : ℕ) (old one two now : List ℕ) → depth < 64 → length one ≤ length two → length two ≤ length now → (length now < limit → length now ≡ length two + 2) → (length one < limit → Paid 0 first before old one) → (length two < limit → Paid (3 * depth) before after one two)
    → length now < limit → Paid 0 first after old now
one_paid limit depth first before after old one two now deep grows more whole paid named below =
    let comma = whole below in
    let sofar = paid (omega (arith, grows, more, below)) in
    let here = named (omega (arith, more, below)) in
    omega (arith, comma, sofar, here, deep)

pub one_most : (limit depth first before after : ℕ) (old one : List ℕ) → (length one < limit → Paid 0 first before old one) → Bounded (256 * depth) limit first before old → Bounded (256 * depth) limit before after one → (limit ≤ length one → after ≡ before) → Bounded (256 * depth) limit first after old
one_most limit depth first before after old one paid most named idle = elim (cases_lt (length one) limit) [
  | inl below ↦ (
      let sofar = paid below in
      omega (arith, sofar, named))
  | inr above ↦ (
      let same = idle above in
      omega (arith, same, most))
]
