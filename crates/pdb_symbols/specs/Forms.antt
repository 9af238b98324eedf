-- What a record says, and how it is refused: the table of all forms.
use Rattle.std.specs.Prelude.{ℕ, ◌≡◌, false, List, Option, Some, None, Result, Err, ◌⊎◌}
use Rattle.pdb_base.specs.declared.error.Error.{Error}
use Rattle.pdb_base.specs.declared.error.Error.TheVariants.{UnexpectedEof, UnimplementedSymbolKind, UnexpectedNumericPrefix}
use Rattle.pdb_base.specs.Fields.{number, is_listed}
use Rattle.pdb_base.specs.Places.{IsNumber}
use Rattle.pdb_symbols.specs.declared.form.Form.{Form}
use Rattle.pdb_symbols.specs.declared.form.Form.TheVariants as form
use Rattle.pdb_symbols.specs.Kinds.{row}
use Rattle.pdb_symbols.specs.Data.{Data}
use Rattle.pdb_symbols.specs.FormTable.{IsOf, read_of}

-- the kind of a record: the number in its first two bytes
abbrev pub kind_at : List ℕ → ℕ
kind_at b = number b 0 2

-- a record of a kind, of bytes b, has the form and says d
abbrev pub IsForm : Option Form → ℕ → List ℕ → Data → Type 0
IsForm None kind b d = ⊥
IsForm (Some f) kind b d = IsOf f kind b d

-- a record of bytes b says d
abbrev pub Is : List ℕ → Data → Type 0
Is b d = IsForm (row (kind_at b)) (kind_at b) b d

-- k is the kind, and it has no row
abbrev pub IsUnlistedKind : List ℕ → ℕ → Type 0
IsUnlistedKind b k = (row (kind_at b) ≡ None) × (k ≡ kind_at b)

-- a constant's prefix is there, and says no kind of number
pub record IsUnlistedPrefix (b : List ℕ) (prefix : ℕ) : Type 0 where
  pub constant : row (kind_at b) ≡ Some form.Constant
  pub there : IsNumber b 6 2 prefix
  pub unlisted : is_listed prefix ≡ false

-- how a record may be refused: its fields aren't all there, its kind has no row, its constant's prefix isn't listed
abbrev pub Refusal : List ℕ → Error → Type 0
Refusal b e = (e ≡ UnexpectedEof) ⊎ (((row (kind_at b) ≡ None) × (e ≡ UnimplementedSymbolKind (kind_at b))) ⊎ ((n : ℕ) × IsUnlistedPrefix b n × (e ≡ UnexpectedNumericPrefix n)))

-- what is read of a record of a form, or the refusal
abbrev pub fields_at : Option Form → ℕ → List ℕ → Result Data Error
fields_at None kind b = Err (UnimplementedSymbolKind kind)
fields_at (Some f) kind b = read_of f kind b

-- what is read of a record, or the refusal
abbrev pub record_at : List ℕ → Result Data Error
record_at b = fields_at (row (kind_at b)) (kind_at b) b

-- the form takes memory
abbrev pub TakesMemory : Option Form → Type 0
TakesMemory (Some form.MultiRegisterVariable) = Unit {0}
TakesMemory f = ⊥
