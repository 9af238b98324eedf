-- Refusals as numbers.
use Rattle.std.proofs.Common.{◌≡◌, ◌≢◌, ℕ, List, inl, inr, Result, Ok, Err, refl}
use Rattle.pdb.specs.Error.{Error}
use Rattle.pdb.specs.Error.TheVariants.{IoError, OutOfMemory}
use Rattle.pdb.specs.Refusal.{Fails, number_of}
use Rattle.pdb.specs.LineProgram.{ProgramOf}
use Rattle.pdb_c.specs.Boundary.{Told, Copied, IsCopied}
use Rattle.pdb_c.specs.Lists.{Obtained, WithoutMemory}
use Rattle.pdb_c.specs.LineRows.{LinesTold}
use Rattle.pdb_c.specs.Opened.{carried, Opened}
use Rattle.pdb_c.specs.declared.lines.PdbLine.{PdbLine}

pub told_read : {Y : Type 0} (old y : Y) (read : Result Y Error) → read ≡ Ok y → Told 0 old y read
told_read old y read h = rw h (inl (refl, refl))

pub told_refused : {Y : Type 0} (e : Error) (old : Y) (read : Result Y Error) → Fails ⊥ e read → Told (number_of e) old old read
told_refused IoError old read f = absurd f
told_refused OutOfMemory old (Ok x) f = inr (refl, refl)
told_refused OutOfMemory old (Err d) f = (inr refl, refl)
told_refused e old read f = rw f (inl refl, refl)

pub copied_read : (code : ℕ) (old new bytes : List ℕ) (size : ℕ) (read : Result (List ℕ) Error) → read ≡ Ok bytes → IsCopied code old new size bytes → Copied code old new size read
copied_read code old new bytes size read h c = rw h (inl c)

pub copied_refused : (e : Error) (old : List ℕ) (read : Result (List ℕ) Error) → Fails ⊥ e read → Copied (number_of e) old old 0 read
copied_refused IoError old read f = absurd f
copied_refused OutOfMemory old (Ok x) f = inr (refl, (refl, refl))
copied_refused OutOfMemory old (Err d) f = (inr refl, (refl, refl))
copied_refused e old read f = rw f (inl refl, (refl, refl))

pub lines_refused : (e : Error) (old : List PdbLine) (read : Result ProgramOf Error) → Fails ⊥ e read → LinesTold (number_of e) old old 0 read
lines_refused IoError old read f = absurd f
lines_refused OutOfMemory old (Ok x) f = inr (refl, refl, refl)
lines_refused OutOfMemory old (Err d) f = (inr refl, refl, refl)
lines_refused e old read f = rw f (inl refl, refl, refl)

pub opened_read : (read : Result (Unit {0}) Error) → read ≡ Ok tt → Opened 0 0 read
opened_read read h = rw h (inl refl, refl)

pub opened_refused : (e : Error) (read : Result (Unit {0}) Error) → Fails ⊥ e read → Opened (number_of e) (carried e) read
opened_refused IoError read f = absurd f
opened_refused OutOfMemory (Ok u) f = (inr refl, refl)
opened_refused OutOfMemory (Err d) f = inr (refl, refl)
opened_refused e read f = rw f (inl (refl, refl))

-- ---- lists in calls that may take memory

pub obtained : {X A : Type 0} (owes : A → Type 0) (code count : ℕ) (old new : List X) (read : Result A Error) (x : A) → read ≡ Ok x → owes x → Obtained owes code old new count read
obtained owes code count old new read x h o = rw h (inl o)

pub obtained_none : {X A : Type 0} (owes : A → Type 0) (old : List X) (read : Result A Error) → Obtained owes 22 old old 0 read
obtained_none owes old (Ok x) = inr (refl, refl, refl)
obtained_none owes old (Err e) = (inr refl, refl, refl)

pub answered : {X A : Type 0} (owes : A → Type 0) (e : Error) (old : List X) (read : Result A Error) → read ≡ Err e → Obtained owes (number_of e) old old 0 read
answered owes e old read h = rw h (inl refl, refl, refl)

pub refused : {X A : Type 0} (owes : A → Type 0) (e : Error) (old : List X) (read : Result A Error) → Fails ⊥ e read → Obtained owes (number_of e) old old 0 read
refused owes IoError old read f = absurd f
refused owes OutOfMemory old read f = obtained_none owes old read
refused owes e old read f = rw f (inl refl, refl, refl)

-- ---- where such calls take no memory

pub owed : {X A : Type 0} (owes : A → Type 0) (code count : ℕ) (old new : List X) (read : Result A Error) (x : A) → read ≡ Ok x → owes x → WithoutMemory owes code old new count read
owed owes code count old new read x h o = rw h o

pub not_memory : {X A : Type 0} (owes : A → Type 0) (e : Error) (old : List X) (read : Result A Error) → e ≢ OutOfMemory → Fails ⊥ e read → WithoutMemory owes (number_of e) old old 0 read
not_memory owes IoError old read other f = absurd f
not_memory owes OutOfMemory old read other f = absurd (other refl)
not_memory owes e old read other f = rw f (refl, refl, refl)
