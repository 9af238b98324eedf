-- Symbols of other kinds than those of code are none.
use Rattle.std.proofs.Common.{◌≡◌, ℕ, Bool, true, false, cond, List, [], ◌∷◌, Option, Some, None, Result, Ok, Err, refl, sym, ap, ◌∙◌, arith, subst}
use Rattle.std.specs.Prelude.{◌==◌, ◌||◌, ◌&&◌, not, nat_lt}
use Rattle.std.proofs.lemmas.Bool.Decides.{nat_tests}
use Rattle.pdb.specs.Error.{Error}
use Rattle.pdb.specs.Data.{Data}
use Rattle.pdb.specs.Forms.{kind_at, record_at}
use Rattle.pdb.specs.SymbolList.{Entry}
use Rattle.pdb_symbols.specs.declared.form.Form.{Form}
use Rattle.pdb_symbols.specs.declared.form.Form.TheVariants as form
use Rattle.pdb_symbols.specs.FormTable.{laid}
use Rattle.pdb_symbols.specs.Forms.{IsForm}
use Rattle.pdb_symbols.specs.Kinds.{is_in, row, row_in, older_rows, middle_rows, newer_rows}
use Rattle.pdb_symbols.proofs.Records.{record_is}
use Rattle.pdb_records.specs.RecordReading.{further_at}
use Rattle.pdb_code.specs.CodeRecords.{is_code_kind, may_be_code}
use Rattle.pdb_code.specs.Kept.{site_if, site_of}
use Rattle.pdb_code.specs.ModuleCode.{is_managed, is_trampoline, managed_of, managed_said, other_of, other_of_role, procedure_of, procedure_of_role, role, trampoline_of, trampoline_said}
use Rattle.pdb_code.specs.ModuleCode.Role.{passed}

-- ---- the kinds of forms that have a role

abbrev form_codes : Form → Bool
form_codes form.Procedure = true
form_codes form.Thunk = true
form_codes form.SeparatedCode = true
form_codes form.InlineSite = true
form_codes f = false

abbrev fits : Form → ℕ → Bool
fits f kind = not (form_codes f) || is_code_kind kind

abbrev Fits : ℕ → Option Form → Type 0
Fits kind None = Unit {0}
Fits kind (Some f) = fits f kind ≡ true

abbrev all_fit : Form → List ℕ → Bool
all_fit f [] = true
all_fit f (k ∷ ks) = fits f k && all_fit f ks

is_kind : (n k : ℕ) → (n == k) ≡ true → n ≡ k
is_kind n k h = grind (arith, nat_tests)

both : (s t : Bool) → (s && t) ≡ true → (s ≡ true) × (t ≡ true)
both true t e = (refl, e)
both false t e = absurd cc

here_or_there : (n k : ℕ) (ks : List ℕ) (P : Type 0) → (n ≡ k → P) → (is_in ks n ≡ true → P) → is_in (k ∷ ks) n ≡ true → P
here_or_there n k ks P first others e = by (n == k) refl e
  where
    by : (t : Bool) → (n == k) ≡ t → (t || is_in ks n) ≡ true → P
    by true q r = first (is_kind n k q)
    by false q r = others r

one_fits : (f : Form) (ks : List ℕ) (n : ℕ) → all_fit f ks ≡ true → is_in ks n ≡ true → fits f n ≡ true
one_fits f [] n h e = absurd cc
one_fits f (k ∷ ks) n h e =
    let (first, others) = both (fits f k) (all_fit f ks) h in
    here_or_there n k ks (fits f n ≡ true) (λ q. rw q first) (λ r. one_fits f ks n others r) e

abbrev all_rows_fit : List (List ℕ × Form) → Bool
all_rows_fit [] = true
all_rows_fit ((kinds, f) ∷ rows) = all_fit f kinds && all_rows_fit rows

row_fits : (f : Form) (ks : List ℕ) (n : ℕ) (others : Option Form) → all_fit f ks ≡ true → Fits n others → Fits n (cond (is_in ks n) (Some f) others)
row_fits f ks n others h k = by (is_in ks n) refl
  where
    by : (t : Bool) → is_in ks n ≡ t → Fits n (cond t (Some f) others)
    by true e = one_fits f ks n h e
    by false e = k

rows_fit : (rows : List (List ℕ × Form)) (n : ℕ) → all_rows_fit rows ≡ true → Fits n (row_in rows n)
rows_fit [] n h = tt
rows_fit ((kinds, f) ∷ rows) n h =
    let (first, others) = both (all_fit f kinds) (all_rows_fit rows) h in
    row_fits f kinds n (row_in rows n) first (rows_fit rows n others)

one_of : (n : ℕ) (t : Bool) (x y : Option Form) → Fits n x → Fits n y → Fits n (cond t x y)
one_of n true x y h k = h
one_of n false x y h k = k

kinds_fit : (n : ℕ) → Fits n (row n)
kinds_fit n = one_of n (nat_lt n 0x1100) _ _ (rows_fit older_rows n refl) (one_of n (nat_lt n 0x1114) _ _ (rows_fit middle_rows n refl) (rows_fit newer_rows n refl))

-- ---- symbols of other kinds

no_role : (f : Form) (kind : ℕ) (s : (laid f).Parts) → form_codes f ≡ false → role (Ok ((laid f).says kind s)) ≡ passed
no_role form.Procedure kind s e = absurd cc
no_role form.Thunk kind s e = absurd cc
no_role form.SeparatedCode kind s e = absurd cc
no_role form.InlineSite kind s e = absurd cc
no_role f kind s e = refl

not_code : (f : Form) (kind : ℕ) → fits f kind ≡ true → is_code_kind kind ≡ false → form_codes f ≡ false
not_code f kind e none = by (form_codes f) refl
  where
    by : (t : Bool) → form_codes f ≡ t → t ≡ false
    by true q = let no : false ≡ true = rw (q, none) at e in absurd cc
    by false q = refl

pub passed_over : (b : List ℕ) → is_code_kind (kind_at b) ≡ false → role (record_at b) ≡ passed
passed_over b none = by (record_at b) refl
  where
    by_row : (d : Data) (o : Option Form) → row (kind_at b) ≡ o → IsForm o (kind_at b) b d → role (Ok d) ≡ passed
    by_row d None e is = absurd is
    by_row d (Some f) e is =
        let fit : fits f (kind_at b) ≡ true = subst (Fits (kind_at b)) e (kinds_fit (kind_at b)) in
        rw is.2 (no_role f (kind_at b) is.0 (not_code f (kind_at b) fit none))

    by : (r : Result Data Error) → record_at b ≡ r → role r ≡ passed
    by (Err e) q = refl
    by (Ok d) q = by_row d (row (kind_at b)) refl (record_is b d q)

pub procedure_none : (s : Entry) → may_be_code s ≡ false → procedure_of s ≡ None
procedure_none s none = ap (procedure_of_role s.index) (passed_over s.bytes none)

pub other_none : (s : Entry) → may_be_code s ≡ false → other_of s ≡ None
other_none s none = ap (other_of_role s.index) (passed_over s.bytes none)

pub site_none : (s : Entry) → may_be_code s ≡ false → site_of s ≡ None
site_none s none = ap (site_if s) (passed_over s.bytes none)

managed_codes : (k : ℕ) → is_managed k ≡ true → is_code_kind k ≡ true
managed_codes k e =
    here_or_there k 0x112a (0x112b ∷ 0x101a ∷ 0x101b ∷ []) (is_code_kind k ≡ true) (λ q. rw q refl)
    (here_or_there k 0x112b (0x101a ∷ 0x101b ∷ []) (is_code_kind k ≡ true) (λ q. rw q refl)
    (here_or_there k 0x101a (0x101b ∷ []) (is_code_kind k ≡ true) (λ q. rw q refl)
    (here_or_there k 0x101b [] (is_code_kind k ≡ true) (λ q. rw q refl) (λ r. absurd cc)))) e

pub managed_none : (s : Entry) → may_be_code s ≡ false → managed_of s ≡ None
managed_none s none = by (is_managed (kind_at s.bytes)) refl
  where
    by : (t : Bool) → is_managed (kind_at s.bytes) ≡ t → cond t (managed_said s.index (further_at s.bytes)) None ≡ None
    by true q = let no : true ≡ false = sym (managed_codes (kind_at s.bytes) q) ∙ none in absurd cc
    by false q = refl

pub trampoline_none : (s : Entry) → may_be_code s ≡ false → trampoline_of s ≡ None
trampoline_none s none = by (is_trampoline (kind_at s.bytes)) refl
  where
    by : (t : Bool) → is_trampoline (kind_at s.bytes) ≡ t → cond t (trampoline_said s.index (record_at s.bytes)) None ≡ None
    by true q = let same : kind_at s.bytes ≡ 0x112c = is_kind _ _ q in let no : true ≡ false = sym (ap is_code_kind same) ∙ none in absurd cc
    by false q = refl
