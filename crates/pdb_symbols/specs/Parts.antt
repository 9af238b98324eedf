-- Parts that several forms have: what is read at a place, and what stands there as facts on places.
use Rattle.std.specs.Prelude.{ℕ, ◌+◌, ◌-◌, ◌<◌, ◌≤◌, List, length, Option, Some, None, Result, Ok, MatchBool, nat_lt, ◌==◌, if◌then◌else◌}
use Rattle.pdb_base.specs.declared.error.Error.{Error}
use Rattle.pdb_base.specs.declared.index.PdbInternalSectionOffset.{PdbInternalSectionOffset}
use Rattle.pdb_base.specs.Refusal.{◌>>=◌}
use Rattle.pdb_base.specs.Fields.{number_at, cstring_at, pascal_at}
use Rattle.pdb_base.specs.Places.{IsNumber, IsCString, IsPascal}
use Rattle.pdb_base.specs.Layouts.{Part, width_given, cstring}

-- 0 is no module, and any other number the module before it
abbrev pub module_of : ℕ → Option ℕ
module_of n = if n == 0 then None else Some (n - 1)

-- ---- what stands at a place

-- an offset of four bytes, and then a section of two
pub record IsOffset (b : List ℕ) (p : ℕ) (o : PdbInternalSectionOffset) : Type 0 where
  pub offset : IsNumber b p 4 o.offset
  pub section : IsNumber b (p + 4) 2 o.section

-- kinds below 0x1100 have names behind their lengths, and the others names with a zero byte behind them
abbrev pub IsName : ℕ → List ℕ → ℕ → List ℕ → Type 0
IsName kind b p s = MatchBool (nat_lt kind 0x1100) (IsPascal b p s) (IsCString b p s)

-- a name that kinds below 0x1100 have not
abbrev pub IsOptionalName : ℕ → List ℕ → ℕ → Option (List ℕ) → Type 0
IsOptionalName kind b p None = kind < 0x1100
IsOptionalName kind b p (Some s) = (0x1100 ≤ kind) × IsCString b p s

-- ---- what is read there, or the refusal

unfoldable pub offset_at : List ℕ → ℕ → Result PdbInternalSectionOffset Error
offset_at b p = do
  offset ← number_at b p 4
  section ← number_at b (p + 4) 2
  Ok (record { offset = offset; section = section })

unfoldable pub name_at : ℕ → List ℕ → ℕ → Result (List ℕ) Error
name_at kind b p = if nat_lt kind 0x1100 then pascal_at b p else cstring_at b p

unfoldable pub optional_name_at : ℕ → List ℕ → ℕ → Result (Option (List ℕ)) Error
optional_name_at kind b p = if nat_lt kind 0x1100 then Ok None else cstring_at b p >>= (λ name. Ok (Some name))

abbrev pub module_at : List ℕ → ℕ → Result (Option ℕ) Error
module_at b p = number_at b p 2 >>= (λ n. Ok (module_of n))

-- ---- the same as parts of layouts

abbrev pub offset : Part PdbInternalSectionOffset
offset = record { at = λ kind b i. offset_at b i; Stands = λ kind b i o. IsOffset b i o; width = λ kind b i o. 6 }

abbrev pub name : Part (List ℕ)
name = record { at = λ kind b i. name_at kind b i; Stands = λ kind b i s. IsName kind b i s; width = λ kind b i s. length s + 1 }

-- a name that kinds below 0x1100 have not
abbrev pub optional_name : Part (Option (List ℕ))
optional_name = record { at = λ kind b i. optional_name_at kind b i; Stands = λ kind b i s. IsOptionalName kind b i s; width = λ kind b i s. width_given cstring kind b i s }
