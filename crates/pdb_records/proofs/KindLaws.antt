-- No kind has a layout in both tables.
use Rattle.std.proofs.Common.{◌≡◌, ℕ, Bool, true, false, List, [], ◌∷◌, Some, None, refl, sym, ◌∙◌, subst}
use Rattle.std.specs.Prelude.{◌==◌, ◌||◌, nat_lt}
use Rattle.std.proofs.lemmas.Bool.{eqb-true}
use Rattle.pdb_symbols.specs.Kinds.{is_in, row}
use Rattle.pdb_symbols.specs.declared.form.Form.{Form}
use Rattle.pdb_records.specs.declared.form.RecordForm.{RecordForm}
use Rattle.pdb_records.specs.RecordRows.{record_row, record_row_in, older_record_rows, middle_record_rows, newer_record_rows}

-- each number of a list has no row among the forms
abbrev Free : List ℕ → Type 0
Free [] = Unit {0}
Free (k ∷ ks) = (row k ≡ None) × Free ks

abbrev FreeRows : List (List ℕ × RecordForm) → Type 0
FreeRows [] = Unit {0}
FreeRows ((ks, f) ∷ rows) = Free ks × FreeRows rows

number_free : (k : ℕ) (ks : List ℕ) (kind : ℕ) (t : Bool) → row k ≡ None → (is_in ks kind ≡ true → row kind ≡ None) → is_in (k ∷ ks) kind ≡ true → (kind == k) ≡ t → row kind ≡ None
number_free k ks kind true h all e is = let same : kind ≡ k = eqb-true kind k is in subst (λ n. row n ≡ None) (sym same) h
number_free k ks kind false h all e is = all (let q : (kind == k || is_in ks kind) ≡ is_in ks kind = rw is refl in sym q ∙ e)

one_free : (ks : List ℕ) (kind : ℕ) → Free ks → is_in ks kind ≡ true → row kind ≡ None
one_free [] kind h e = absurd cc
one_free (k ∷ ks) kind h e = number_free k ks kind (kind == k) h.0 (one_free ks kind h.1) e refl

row_free : (ks : List ℕ) (f : RecordForm) (rows : List (List ℕ × RecordForm)) (kind : ℕ) (g : RecordForm) (t : Bool) → Free ks → (record_row_in rows kind ≡ Some g → row kind ≡ None) → record_row_in ((ks, f) ∷ rows) kind ≡ Some g → is_in ks kind ≡ t → row kind ≡ None
row_free ks f rows kind g true h all e is = one_free ks kind h is
row_free ks f rows kind g false h all e is = all (let q : record_row_in ((ks, f) ∷ rows) kind ≡ record_row_in rows kind = rw is refl in sym q ∙ e)

rows_free : (rows : List (List ℕ × RecordForm)) (kind : ℕ) (g : RecordForm) → FreeRows rows → record_row_in rows kind ≡ Some g → row kind ≡ None
rows_free [] kind g h e = absurd cc
rows_free ((ks, f) ∷ rows) kind g h e = row_free ks f rows kind g (is_in ks kind) h.0 (rows_free rows kind g h.1) e refl

older_free : FreeRows older_record_rows
older_free = ((refl, tt), ((refl, tt), ((refl, tt), ((refl, (refl, tt)), ((refl, tt), ((refl, tt), ((refl, tt), ((refl, tt), ((refl, tt), ((refl, tt), ((refl, tt), ((refl, (refl, tt)), ((refl, tt), ((refl, tt), ((refl, tt), ((refl, tt), tt))))))))))))))))

middle_free : FreeRows middle_record_rows
middle_free = ((refl, tt), ((refl, tt), ((refl, (refl, tt)), ((refl, tt), ((refl, tt), ((refl, tt), ((refl, tt), ((refl, tt), ((refl, tt), ((refl, tt), ((refl, tt), ((refl, (refl, tt)), ((refl, tt), ((refl, (refl, tt)), ((refl, (refl, tt)), ((refl, (refl, tt)), tt))))))))))))))))

newer_free : FreeRows newer_record_rows
newer_free = ((refl, tt), ((refl, tt), ((refl, tt), ((refl, tt), ((refl, tt), ((refl, tt), ((refl, tt), ((refl, tt), ((refl, (refl, (refl, tt))), ((refl, tt), ((refl, tt), ((refl, tt), ((refl, tt), ((refl, tt), ((refl, tt), ((refl, tt), tt))))))))))))))))

pub further_is_no_form : (kind : ℕ) (g : RecordForm) → record_row kind ≡ Some g → row kind ≡ None
further_is_no_form kind g e = by_band (nat_lt kind 0x1100) refl
  where
    by_middle : (t : Bool) → nat_lt kind 0x1140 ≡ t → nat_lt kind 0x1100 ≡ false → row kind ≡ None
    by_middle true is low = rows_free middle_record_rows kind g middle_free (let q : record_row kind ≡ record_row_in middle_record_rows kind = rw (low, is) refl in sym q ∙ e)
    by_middle false is low = rows_free newer_record_rows kind g newer_free (let q : record_row kind ≡ record_row_in newer_record_rows kind = rw (low, is) refl in sym q ∙ e)

    by_band : (t : Bool) → nat_lt kind 0x1100 ≡ t → row kind ≡ None
    by_band true is = rows_free older_record_rows kind g older_free (let q : record_row kind ≡ record_row_in older_record_rows kind = rw is refl in sym q ∙ e)
    by_band false is = by_middle (nat_lt kind 0x1140) refl is

pub read_once : (kind : ℕ) (f : Form) (g : RecordForm) → row kind ≡ Some f → record_row kind ≡ Some g → ⊥
read_once kind f g h k = let none = further_is_no_form kind g k in absurd cc
