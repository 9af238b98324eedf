-- Refusals of readings: none of them tells that a source failed.
use Rattle.std.proofs.Common.{◌≡◌, ℕ, ◌+◌, Bool, true, false, cond, List, length, take, drop, Ok, Err, Result}
use Rattle.std.specs.Prelude.{nat_le}
use Rattle.pdb_base.specs.declared.error.Error.{Error}
use Rattle.pdb_base.specs.declared.error.Error.TheVariants.{UnexpectedEof, IoError, OutOfMemory}
use Rattle.pdb_base.specs.Fields.{number, number_at, bytes_at}
use Rattle.pdb_base.specs.Refusal.{Fails, ◌>>=◌}

abbrev pub NotIo : {A : Type 0} → Result A Error → Type 0
NotIo (Ok x) = Unit {0}
NotIo (Err IoError) = ⊥
NotIo (Err e) = Unit {0}

pub not_io_then : {A B : Type 0} (r : Result A Error) (f : A → Result B Error) → NotIo r → ((x : A) → NotIo (f x)) → NotIo (r >>= f)
not_io_then (Ok x) f h g = g x
not_io_then (Err IoError) f h g = h
not_io_then (Err e) f h g = tt

eof_not_io : {A : Type 0} (t : Bool) (x : A) → NotIo (cond t (Ok x) (Err UnexpectedEof))
eof_not_io true x = tt
eof_not_io false x = tt

pub number_not_io : (b : List ℕ) (p w : ℕ) → NotIo (number_at b p w)
unfolding number_at
number_not_io b p w = eof_not_io (nat_le (p + w) (length b)) (number b p w)

pub bytes_not_io : (b : List ℕ) (p n : ℕ) → NotIo (bytes_at b p n)
unfolding bytes_at
bytes_not_io b p n = eof_not_io (nat_le (p + n) (length b)) (take n (drop p b))

-- what reading is refused for is told as it is
pub fails_with : {A : Type 0} (e : Error) (r : Result A Error) → NotIo (let r : Result A Error = Err e in r) → r ≡ Err e → Fails ⊥ e r
fails_with IoError r h is = h
fails_with OutOfMemory r h is = tt
fails_with e r h is = is
