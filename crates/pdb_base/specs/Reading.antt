-- Lists whose pieces one reading tells: it gives the item that begins at a place, or what is wrong there.
use Rattle.std.specs.Prelude.{ℕ, List, Option, Some, None, Result, Ok, Err, option_map}
use Rattle.pdb_base.specs.declared.error.Error.{Error}
use Rattle.pdb_base.specs.Tiling.{Row}

-- what was read, if it was
abbrev pub given : {A : Type 0} → Result A Error → Option A
given (Ok x) = Some x
given (Err e) = None

-- why it wasn't, if it wasn't
abbrev pub refusal : {A : Type 0} → Result A Error → Option Error
refusal (Ok x) = None
refusal (Err e) = Some e

-- the list of what is read at each place, and takes as many bytes as `width` says of the place and of what was read
abbrev pub read_row : {A : Type 0} → (List ℕ → ℕ → Result A Error) → (ℕ → A → ℕ) → Row A
read_row at width = record {
  piece = λ b p. option_map (width p) (given (at b p));
  item = λ b p k. given (at b p);
  fault = λ b p. refusal (at b p);
}
