-- Kinds by their forms: which start a scope, which end one, which take memory.
use Rattle.std.proofs.Common.{◌≡◌, ℕ, Bool, true, false, cond, List, [], ◌∷◌, Option, Some, None, refl, sym, ◌∙◌, subst, arith}
use Rattle.std.specs.Prelude.{◌==◌, ◌||◌, ◌&&◌, nat_lt, IsTrue}
use Rattle.std.proofs.lemmas.Bool.Decides.{nat_tests}
use Rattle.pdb_symbols.specs.declared.form.Form.{Form}
use Rattle.pdb_symbols.specs.declared.form.Form.TheVariants as form
use Rattle.pdb_symbols.specs.Data.{Data}
use Rattle.pdb_symbols.specs.FormTable.{laid}
use Rattle.pdb_symbols.specs.Forms.{IsForm, Is, TakesMemory, kind_at}
use Rattle.pdb_symbols.specs.Kinds.{is_in, row, row_in, older_rows, middle_rows, newer_rows}
use Rattle.pdb_symbols.specs.Scopes.{starts_of, ends_of, StartsScope, EndsScope}

-- what is known of the kinds of a form
abbrev form_starts : Form → Bool
form_starts form.Procedure = true
form_starts form.Block = true
form_starts form.Thunk = true
form_starts form.SeparatedCode = true
form_starts form.InlineSite = true
form_starts f = false

abbrev form_ends : Form → Bool
form_ends form.ScopeEnd = true
form_ends form.ProcedureEnd = true
form_ends form.InlineSiteEnd = true
form_ends f = false

abbrev form_wants : Form → Bool
form_wants form.MultiRegisterVariable = true
form_wants f = false

abbrev wants_of : ℕ → Bool
wants_of kind = is_in (0x110a ∷ 0x1005 ∷ 0x1117 ∷ 0x1014 ∷ []) kind

abbrev same : Bool → Bool → Bool
same true t = t
same false true = false
same false false = true

abbrev fits : Form → ℕ → Bool
fits f kind = same (starts_of kind) (form_starts f) && same (ends_of kind) (form_ends f) && same (wants_of kind) (form_wants f)

abbrev Fits : ℕ → Option Form → Type 0
Fits kind None = Unit {0}
Fits kind (Some f) = fits f kind ≡ true

abbrev all_fit : Form → List ℕ → Bool
all_fit f [] = true
all_fit f (k ∷ ks) = fits f k && all_fit f ks

is_kind : (n k : ℕ) → (n == k) ≡ true → n ≡ k
is_kind n k h = grind (arith, nat_tests)

both : (s t : Bool) → (s && t) ≡ true → (s ≡ true) × (t ≡ true)
both true t e = (refl, e)
both false t e = absurd cc

-- a number among some is the first, or among the others
here_or_there : (n k : ℕ) (ks : List ℕ) (P : Type 0) → (n ≡ k → P) → (is_in ks n ≡ true → P) → is_in (k ∷ ks) n ≡ true → P
here_or_there n k ks P first others e = by (n == k) refl e
  where
    by : (t : Bool) → (n == k) ≡ t → (t || is_in ks n) ≡ true → P
    by true q r = first (is_kind n k q)
    by false q r = others r

one_fits : (f : Form) (ks : List ℕ) (n : ℕ) → all_fit f ks ≡ true → is_in ks n ≡ true → fits f n ≡ true
one_fits f [] n h e = absurd cc
one_fits f (k ∷ ks) n h e =
    let (first, others) = both (fits f k) (all_fit f ks) h in
    here_or_there n k ks (fits f n ≡ true) (λ q. rw q first) (λ r. one_fits f ks n others r) e

abbrev all_rows_fit : List (List ℕ × Form) → Bool
all_rows_fit [] = true
all_rows_fit ((kinds, f) ∷ rows) = all_fit f kinds && all_rows_fit rows

row_fits : (f : Form) (ks : List ℕ) (n : ℕ) (others : Option Form) → all_fit f ks ≡ true → Fits n others → Fits n (cond (is_in ks n) (Some f) others)
row_fits f ks n others h k = by (is_in ks n) refl
  where
    by : (t : Bool) → is_in ks n ≡ t → Fits n (cond t (Some f) others)
    by true e = one_fits f ks n h e
    by false e = k

rows_fit : (rows : List (List ℕ × Form)) (n : ℕ) → all_rows_fit rows ≡ true → Fits n (row_in rows n)
rows_fit [] n h = tt
rows_fit ((kinds, f) ∷ rows) n h =
    let (first, others) = both (all_fit f kinds) (all_rows_fit rows) h in
    row_fits f kinds n (row_in rows n) first (rows_fit rows n others)

one_of : (n : ℕ) (t : Bool) (x y : Option Form) → Fits n x → Fits n y → Fits n (cond t x y)
one_of n true x y h k = h
one_of n false x y h k = k

kinds_fit : (n : ℕ) → Fits n (row n)
kinds_fit n = one_of n (nat_lt n 0x1100) _ _ (rows_fit older_rows n refl) (one_of n (nat_lt n 0x1114) _ _ (rows_fit middle_rows n refl) (rows_fit newer_rows n refl))

same_is : (s t : Bool) → same s t ≡ true → s ≡ t
same_is true t e = sym e
same_is false true e = absurd cc
same_is false false e = refl

-- what is known of a kind by its form
by_form : (n : ℕ) (f : Form) → row n ≡ Some f → (starts_of n ≡ form_starts f) × (ends_of n ≡ form_ends f) × (wants_of n ≡ form_wants f)
by_form n f e =
    let fit : fits f n ≡ true = subst (Fits n) e (kinds_fit n) in
    let (two, third) = both (same (starts_of n) (form_starts f) && same (ends_of n) (form_ends f)) (same (wants_of n) (form_wants f)) fit in
    let (first, second) = both (same (starts_of n) (form_starts f)) (same (ends_of n) (form_ends f)) two in
    (same_is _ _ first, same_is _ _ second, same_is _ _ third)

-- memory is wanted for four kinds alone
pub wants_are : (n : ℕ) → TakesMemory (row n) → IsTrue (is_in (0x110a ∷ 0x1005 ∷ 0x1117 ∷ 0x1014 ∷ []) n)
wants_are n h = by (row n) refl h
  where
    wants : (f : Form) → TakesMemory (Some f) → form_wants f ≡ true
    wants form.MultiRegisterVariable h = refl
    wants f h = absurd h

    by : (o : Option Form) → row n ≡ o → TakesMemory o → IsTrue (wants_of n)
    by None e h = absurd h
    by (Some f) e h = (by_form n f e).2 ∙ wants f h

starting : (f : Form) (kind : ℕ) (s : (laid f).Parts) → StartsScope ((laid f).says kind s) → form_starts f ≡ true
starting form.Procedure kind s h = refl
starting form.Block kind s h = refl
starting form.Thunk kind s h = refl
starting form.SeparatedCode kind s h = refl
starting form.InlineSite kind s h = refl
starting f kind s h = absurd h

ending : (f : Form) (kind : ℕ) (s : (laid f).Parts) → EndsScope ((laid f).says kind s) → form_ends f ≡ true
ending form.ScopeEnd kind s h = refl
ending form.ProcedureEnd kind s h = refl
ending form.InlineSiteEnd kind s h = refl
ending f kind s h = absurd h

pub starts_are : (b : List ℕ) (d : Data) → Is b d → StartsScope d → starts_of (kind_at b) ≡ true
starts_are b d is h = by (row (kind_at b)) refl is
  where
    by : (o : Option Form) → row (kind_at b) ≡ o → IsForm o (kind_at b) b d → starts_of (kind_at b) ≡ true
    by None e is = absurd is
    by (Some f) e is = (by_form (kind_at b) f e).0 ∙ starting f (kind_at b) is.0 (rw is.2 at h)

pub ends_are : (b : List ℕ) (d : Data) → Is b d → EndsScope d → ends_of (kind_at b) ≡ true
ends_are b d is h = by (row (kind_at b)) refl is
  where
    by : (o : Option Form) → row (kind_at b) ≡ o → IsForm o (kind_at b) b d → ends_of (kind_at b) ≡ true
    by None e is = absurd is
    by (Some f) e is = (by_form (kind_at b) f e).1 ∙ ending f (kind_at b) is.0 (rw is.2 at h)

abbrev none_starts : List ℕ → Bool
none_starts [] = true
none_starts (k ∷ ks) = same (starts_of k) false && none_starts ks

-- the three kinds that end a scope start none
no_start : (ks : List ℕ) (n : ℕ) → none_starts ks ≡ true → is_in ks n ≡ true → starts_of n ≡ false
no_start [] n h e = absurd cc
no_start (k ∷ ks) n h e =
    let (first, others) = both (same (starts_of k) false) (none_starts ks) h in
    here_or_there n k ks (starts_of n ≡ false) (λ q. rw q (same_is (starts_of k) false first)) (λ r. no_start ks n others r) e

pub none_both : (n : ℕ) → ends_of n ≡ true → starts_of n ≡ false
none_both n e = no_start (0x0006 ∷ 0x114e ∷ 0x114f ∷ []) n refl e
