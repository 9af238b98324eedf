-- What the number says that a call answers.
use Rattle.std.specs.Prelude.{◌≡◌, ℕ, ◌⊎◌, List, length, Result, Ok, Err, nat_lt, ◌==◌, if◌then◌else◌}
use Rattle.pdb.specs.Error.{Error}
use Rattle.pdb.specs.Refusal.{number_of}
use Rattle.pdb_c.specs.Rooms.{over}

-- 31 where a room is smaller than what is needed
abbrev pub room_code : ℕ → ℕ → ℕ
room_code room needed = if nat_lt room needed then 31 else 0

-- 31 where either room is too small
abbrev pub both_code : ℕ → ℕ → ℕ
both_code rows room = if rows == 0 then room else rows

-- the code of a refused call: the refusal's number, or 22 for out of memory
abbrev pub IsRefused : ℕ → Error → Type 0
IsRefused code e = (code ≡ number_of e) ⊎ (code ≡ 22)

-- The code of a call that put y out, where reading gives read: 0, and y is what is read; or the refusal, and y is what it was.
abbrev pub Told : {Y : Type 0} → ℕ → Y → Y → Result Y Error → Type 0
Told code old new (Ok x) = ((code ≡ 0) × (new ≡ x)) ⊎ ((code ≡ 22) × (new ≡ old))
Told code old new (Err e) = IsRefused code e × (new ≡ old)

-- The same of a call that takes no memory.
abbrev pub ToldWithoutMemory : {Y : Type 0} → ℕ → Y → Y → Result Y Error → Type 0
ToldWithoutMemory code old new (Ok x) = (code ≡ 0) × (new ≡ x)
ToldWithoutMemory code old new (Err e) = (code ≡ number_of e) × (new ≡ old)

-- what a room of bytes has after a call, how many bytes there are, and the code
pub record IsCopied (c : ℕ) (old new : List ℕ) (total : ℕ) (bytes : List ℕ) : Type 0 where
  pub size : total ≡ length bytes
  pub room : new ≡ over bytes old
  pub code : c ≡ room_code (length old) (length bytes)

-- nothing was put in a room
abbrev pub IsUntouched : {A : Type 0} → List A → List A → ℕ → Type 0
IsUntouched old new size = (new ≡ old) × (size ≡ 0)

-- The code of a call that copied bytes into a room, as far as it reaches, and told how many there are.
abbrev pub Copied : ℕ → List ℕ → List ℕ → ℕ → Result (List ℕ) Error → Type 0
Copied code old new size (Ok bytes) = IsCopied code old new size bytes ⊎ ((code ≡ 22) × IsUntouched old new size)
Copied code old new size (Err e) = IsRefused code e × IsUntouched old new size
