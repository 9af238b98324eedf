-- Which kinds of records may be global symbols that have a line.
use Rattle.std.proofs.Common.{◌≡◌, ℕ, Bool, true, false, cond, ◌⊎◌, inl, inr, List, [], ◌∷◌, Option, Some, None, Result, Ok, Err, refl, arith}
use Rattle.std.specs.Prelude.{◌==◌, ◌||◌, ◌&&◌, nat_lt}
use Rattle.std.proofs.lemmas.Bool.Decides.{nat_tests}
use Rattle.pdb.specs.Error.{Error}
use Rattle.pdb_symbols.specs.Data.{Data}
use Rattle.pdb_symbols.specs.Data.Data.{Public, DataItem, ThreadStorage}
use Rattle.pdb_symbols.specs.FormTable.{Laid, laid}
use Rattle.pdb_symbols.specs.Forms.{IsForm, Is, kind_at, record_at}
use Rattle.pdb_symbols.specs.Kinds.{is_in, row, older_rows, middle_rows, newer_rows}
use Rattle.pdb_symbols.proofs.Records.{record_is}
use Rattle.tool_search.specs.FindTexts.{Finding, global_kinds, global_line}

abbrev pub global_kind : ℕ → Bool
global_kind kind = is_in global_kinds kind

-- what a record says may have a line
abbrev HasLine : Data → Type 0
HasLine (Public code function managed msil place name) = Unit {0}
HasLine (DataItem global managed type_index place name) = Unit {0}
HasLine (ThreadStorage global type_index place name) = Unit {0}
HasLine d = ⊥

-- ---- tables of kinds, whatever names their forms

abbrev found_in : {F : Type 0} → List (List ℕ × F) → ℕ → Option F
found_in [] kind = None
found_in ((kinds, f) ∷ rows) kind = cond (is_in kinds kind) (Some f) (found_in rows kind)

-- records of the format say none that has a line
abbrev NeverTold : Laid → Type 0
NeverTold l = (kind : ℕ) (s : l.Parts) → HasLine (l.says kind s) → ⊥

abbrev all_told : List ℕ → Bool
all_told [] = true
all_told (k ∷ ks) = global_kind k && all_told ks

abbrev AllRowsFit : {F : Type 0} → (F → Laid) → List (List ℕ × F) → Type 0
AllRowsFit laid_as [] = Unit {0}
AllRowsFit laid_as ((kinds, f) ∷ rows) = ((all_told kinds ≡ true) ⊎ NeverTold (laid_as f)) × AllRowsFit laid_as rows

-- where a record of the kind says one that may have a line, the kind is one of them
abbrev Fits : {F : Type 0} → (F → Laid) → ℕ → Option F → Type 0
Fits laid_as kind None = Unit {0}
Fits laid_as kind (Some f) = (s : (laid_as f).Parts) → HasLine ((laid_as f).says kind s) → global_kind kind ≡ true

is_kind : (n k : ℕ) → (n == k) ≡ true → n ≡ k
is_kind n k h = grind (arith, nat_tests)

both : (s t : Bool) → (s && t) ≡ true → (s ≡ true) × (t ≡ true)
both true t e = (refl, e)
both false t e = absurd cc

here_or_there : (n k : ℕ) (ks : List ℕ) (P : Type 0) → (n ≡ k → P) → (is_in ks n ≡ true → P) → is_in (k ∷ ks) n ≡ true → P
here_or_there n k ks P first others e = by (n == k) refl e
  where
    by : (t : Bool) → (n == k) ≡ t → (t || is_in ks n) ≡ true → P
    by true q r = first (is_kind n k q)
    by false q r = others r

one_told : (ks : List ℕ) (n : ℕ) → all_told ks ≡ true → is_in ks n ≡ true → global_kind n ≡ true
one_told [] n h e = absurd cc
one_told (k ∷ ks) n h e =
    let (first, others) = both (global_kind k) (all_told ks) h in
    here_or_there n k ks (global_kind n ≡ true) (λ q. rw q first) (λ r. one_told ks n others r) e

row_fits : {F : Type 0} (laid_as : F → Laid) (f : F) (ks : List ℕ) (n : ℕ) (others : Option F) → (all_told ks ≡ true) ⊎ NeverTold (laid_as f) → Fits laid_as n others → Fits laid_as n (cond (is_in ks n) (Some f) others)
row_fits laid_as f ks n others h k = by (is_in ks n) refl h
  where
    by : (t : Bool) → is_in ks n ≡ t → (all_told ks ≡ true) ⊎ NeverTold (laid_as f) → Fits laid_as n (cond t (Some f) others)
    by true e (inl all) = λ s p. one_told ks n all e
    by true e (inr never) = λ s p. absurd (never n s p)
    by false e h = k

rows_fit : {F : Type 0} (laid_as : F → Laid) (rows : List (List ℕ × F)) (n : ℕ) → AllRowsFit laid_as rows → Fits laid_as n (found_in rows n)
rows_fit laid_as [] n h = tt
rows_fit laid_as ((kinds, f) ∷ rows) n h = row_fits laid_as f kinds n (found_in rows n) h.0 (rows_fit laid_as rows n h.1)

one_of : {F : Type 0} (laid_as : F → Laid) (n : ℕ) (t : Bool) (x y : Option F) → Fits laid_as n x → Fits laid_as n y → Fits laid_as n (cond t x y)
one_of laid_as n true x y h k = h
one_of laid_as n false x y h k = k

-- ---- the table

older_fit : AllRowsFit laid older_rows
older_fit = (inr (λ kind s h. h), (inr (λ kind s h. h), (inr (λ kind s h. h), (inr (λ kind s h. h), (inr (λ kind s h. h), (inr (λ kind s h. h), (inl refl, (inl refl, (inr (λ kind s h. h), (inl refl, (inr (λ kind s h. h), (inr (λ kind s h. h), (inr (λ kind s h. h), (inr (λ kind s h. h), (inr (λ kind s h. h), (inr (λ kind s h. h), (inr (λ kind s h. h), tt)))))))))))))))))

middle_fit : AllRowsFit laid middle_rows
middle_fit = (inr (λ kind s h. h), (inr (λ kind s h. h), (inr (λ kind s h. h), (inr (λ kind s h. h), (inr (λ kind s h. h), (inl refl, (inl refl, (inr (λ kind s h. h), (inl refl, (inr (λ kind s h. h), (inr (λ kind s h. h), (inr (λ kind s h. h), (inr (λ kind s h. h), tt)))))))))))))

newer_fit : AllRowsFit laid newer_rows
newer_fit = (inr (λ kind s h. h), (inr (λ kind s h. h), (inl refl, (inr (λ kind s h. h), (inr (λ kind s h. h), (inr (λ kind s h. h), (inr (λ kind s h. h), (inr (λ kind s h. h), (inr (λ kind s h. h), (inr (λ kind s h. h), (inr (λ kind s h. h), (inr (λ kind s h. h), (inr (λ kind s h. h), (inr (λ kind s h. h), (inr (λ kind s h. h), (inr (λ kind s h. h), (inr (λ kind s h. h), tt)))))))))))))))))

kinds_fit : (n : ℕ) → Fits laid n (row n)
kinds_fit n = one_of laid n (nat_lt n 0x1100) _ _ (rows_fit laid older_rows n older_fit) (one_of laid n (nat_lt n 0x1114) _ _ (rows_fit laid middle_rows n middle_fit) (rows_fit laid newer_rows n newer_fit))

kind_is_told : (b : List ℕ) (d : Data) → Is b d → HasLine d → global_kind (kind_at b) ≡ true
kind_is_told b d is h = by (row (kind_at b)) (kinds_fit (kind_at b)) is
  where
    by : (o : Option _) → Fits laid (kind_at b) o → IsForm o (kind_at b) b d → global_kind (kind_at b) ≡ true
    by None fits is = absurd is
    by (Some f) fits is = fits is.0 (rw is.2 at h)

-- a record of another kind has none
pub other_kind : (x86 : Bool) (f : Finding) (b : List ℕ) → global_kind (kind_at b) ≡ false → global_line x86 f (record_at b) ≡ []
other_kind x86 f b no_kind = by (record_at b) (λ d e h. kind_is_told b d (record_is b d e) h)
  where
    differ : {t : Bool} → t ≡ false → t ≡ true → ⊥
    differ h k = cc

    by : (r : Result Data Error) → ((d : Data) → r ≡ Ok d → HasLine d → global_kind (kind_at b) ≡ true) → global_line x86 f r ≡ []
    by (Err e) h = refl
    by (Ok (Public code function managed msil place name)) h = absurd (differ no_kind (h (Public code function managed msil place name) refl tt))
    by (Ok (DataItem global managed type_index place name)) h = absurd (differ no_kind (h (DataItem global managed type_index place name) refl tt))
    by (Ok (ThreadStorage global type_index place name)) h = absurd (differ no_kind (h (ThreadStorage global type_index place name) refl tt))
    by (Ok d) h = refl
