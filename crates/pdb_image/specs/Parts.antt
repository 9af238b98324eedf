-- What a call answers, and parts of an image's bytes.
use Rattle.std.specs.Prelude.{◌≡◌, ℕ, ◌+◌, List, length, take, drop, Result, Ok, Err, nat_le, if◌then◌else◌}
use Rattle.pdb_image.specs.declared.error.ImageError.{ImageError}
use Rattle.pdb_image.specs.declared.error.ImageError.TheVariants.{UnexpectedEof}

-- what is read first, and then the rest; or the first error
infixl 10 ◌>>=◌
abbrev pub ◌>>=◌ : {A B : Type 0} → Result A ImageError → (A → Result B ImageError) → Result B ImageError
(Ok x) >>= f = f x
(Err e) >>= f = Err e

-- a call returns what is read, seen by view, or its error
abbrev pub Answers : {X Y : Type 0} → (X → Y) → Result X ImageError → Result Y ImageError → Type 0
Answers view (Ok x) read = read ≡ Ok (view x)
Answers view (Err e) read = read ≡ Err e

-- the n bytes at p
unfoldable pub bytes_at : List ℕ → ℕ → ℕ → Result (List ℕ) ImageError
bytes_at b p n = if nat_le (p + n) (length b) then Ok (take n (drop p b)) else Err UnexpectedEof
