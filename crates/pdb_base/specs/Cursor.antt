-- A place in a list of bytes, and what a read there answers.
use Rattle.std.specs.Prelude.{ℕ, ◌+◌, ◌≡◌, ◌≢◌, List, Result, Ok, Err}
use Rattle.pdb_base.specs.declared.error.Error.{Error}
use Rattle.pdb_base.specs.declared.error.Error.TheVariants.{IoError, OutOfMemory}

-- a place in a list of bytes
pub record Cursor : Type 0 where
  pub bytes : List ℕ
  pub place : ℕ

-- A read answers what stands at the place, seen by view, and goes on by its width; or the refusal, and
-- then the place is open. The bytes stay, no memory is taken, and no view is asked for.
abbrev pub Reads : {A B : Type 0} → (A → B) → Cursor → Cursor → Result A Error → Result B Error → (B → ℕ) → Type 0
Reads view old new (Ok x) there width = (there ≡ Ok (view x)) × (new.bytes ≡ old.bytes) × (new.place ≡ old.place + width (view x))
Reads view old new (Err e) there width = (there ≡ Err e) × (new.bytes ≡ old.bytes) × (e ≢ OutOfMemory) × (e ≢ IoError)
