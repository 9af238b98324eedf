-- What a further record says, and how it is refused.
use Rattle.std.specs.Prelude.{ℕ, ◌≡◌, List, Option, Some, None, Result, Err, ◌⊎◌}
use Rattle.pdb_base.specs.declared.error.Error.{Error}
use Rattle.pdb_base.specs.declared.error.Error.TheVariants.{UnexpectedEof, UnimplementedSymbolKind}
use Rattle.pdb_symbols.specs.Forms.{kind_at}
use Rattle.pdb_records.specs.declared.form.RecordForm.{RecordForm}
use Rattle.pdb_records.specs.RecordRows.{record_row}
use Rattle.pdb_records.specs.RecordSays.{Says}
use Rattle.pdb_records.specs.RecordTable.{IsOfRecord, read_of_record}

-- a record of a kind, of bytes b, has the form and says d
abbrev pub HasForm : Option RecordForm → ℕ → List ℕ → Says → Type 0
HasForm None kind b d = ⊥
HasForm (Some f) kind b d = IsOfRecord f kind b d

-- a record of bytes b says d
abbrev pub SaysOf : List ℕ → Says → Type 0
SaysOf b d = HasForm (record_row (kind_at b)) (kind_at b) b d

-- how a record may be refused: its fields aren't all there, or its kind has no row
abbrev pub RecordRefusal : List ℕ → Error → Type 0
RecordRefusal b e = (e ≡ UnexpectedEof) ⊎ ((record_row (kind_at b) ≡ None) × (e ≡ UnimplementedSymbolKind (kind_at b)))

-- what is read of a record of a form, or the refusal
abbrev pub further_fields_at : Option RecordForm → ℕ → List ℕ → Result Says Error
further_fields_at None kind b = Err (UnimplementedSymbolKind kind)
further_fields_at (Some f) kind b = read_of_record f kind b

-- what is read of a record, or the refusal
abbrev pub further_at : List ℕ → Result Says Error
further_at b = further_fields_at (record_row (kind_at b)) (kind_at b) b
