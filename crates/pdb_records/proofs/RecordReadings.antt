-- What is read of a whole record.
use Rattle.std.proofs.Common.{◌≡◌, ℕ, List, Option, Some, None, Ok, Err, refl, ap, ◌⊎◌, inl, inr}
use Rattle.pdb_base.specs.declared.error.Error.{Error}
use Rattle.pdb_base.specs.declared.error.Error.TheVariants.{UnexpectedEof, UnimplementedSymbolKind}
use Rattle.pdb_symbols.specs.Forms.{kind_at}
use Rattle.pdb_records.specs.declared.form.RecordForm.{RecordForm}
use Rattle.pdb_records.specs.RecordRows.{record_row}
use Rattle.pdb_records.specs.RecordSays.{Says}
use Rattle.pdb_records.specs.RecordReading.{HasForm, SaysOf, RecordRefusal, further_fields_at, further_at}
use Rattle.pdb_records.proofs.LaidRecords.{of_is_record, is_of_record, ends_of_record}

fields_have : (f : Option RecordForm) (kind : ℕ) (b : List ℕ) (d : Says) → further_fields_at f kind b ≡ Ok d → HasForm f kind b d
fields_have None kind b d e = absurd cc
fields_have (Some f) kind b d e = of_is_record f kind b d e

have_fields : (f : Option RecordForm) (kind : ℕ) (b : List ℕ) (d : Says) → HasForm f kind b d → further_fields_at f kind b ≡ Ok d
have_fields None kind b d h = absurd h
have_fields (Some f) kind b d h = is_of_record f kind b d h

pub further_says : (b : List ℕ) (d : Says) → further_at b ≡ Ok d → SaysOf b d
further_says b d e = fields_have (record_row (kind_at b)) (kind_at b) b d e

pub says_further : (b : List ℕ) (d : Says) → SaysOf b d → further_at b ≡ Ok d
says_further b d h = have_fields (record_row (kind_at b)) (kind_at b) b d h

fields_fail : (f : Option RecordForm) (kind : ℕ) (b : List ℕ) (e : Error) → further_fields_at f kind b ≡ Err e → (e ≡ UnexpectedEof) ⊎ ((f ≡ None) × (e ≡ UnimplementedSymbolKind kind))
fields_fail None kind b e h = inr (refl, cc)
fields_fail (Some f) kind b e h = inl (ends_of_record f kind b e h)

pub further_refused : (b : List ℕ) (e : Error) → further_at b ≡ Err e → RecordRefusal b e
further_refused b e h = fields_fail (record_row (kind_at b)) (kind_at b) b e h

pub no_further_row : (b : List ℕ) → record_row (kind_at b) ≡ None → further_at b ≡ Err (UnimplementedSymbolKind (kind_at b))
no_further_row b h = ap (λ f. further_fields_at f (kind_at b) b) h
