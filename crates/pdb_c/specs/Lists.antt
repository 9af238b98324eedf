-- Lists that are put in a room whole.
use Rattle.std.specs.Prelude.{◌≡◌, ◌⊎◌, ℕ, List, length, map, Option, Some, None, Result, Ok, Err}
use Rattle.pdb.specs.Error.{Error}
use Rattle.pdb.specs.Refusal.{number_of}
use Rattle.pdb.specs.Left.{Left}
use Rattle.pdb_c.specs.Rooms.{over}
use Rattle.pdb_c.specs.Boundary.{IsRefused, room_code}

-- the number of the error behind a list, whether or not the buffer is too small; without an error 31 where it is
abbrev pub list_code : ℕ → ℕ → Option Error → ℕ
list_code room count None = room_code room count
list_code room count (Some e) = number_of e

-- A call put a list's items, as far as the room reaches: each as a row that is seen as `says` says of the item.
pub record IsListed {X Y Z : Type 0} (view : X → Y) (says : Z → Y) (c : ℕ) (old new : List X) (n : ℕ) (left : Left Z) : Type 0 where
  pub rows : map view new ≡ over (map says left.items) (map view old)
  pub count : n ≡ length left.items
  pub code : c ≡ list_code (length old) (length left.items) left.fault

-- The same of a list that may be refused, in a call that takes no memory: then nothing is put.
abbrev pub Listed : {X Y Z : Type 0} → (X → Y) → (Z → Y) → ℕ → List X → List X → ℕ → Result (Left Z) Error → Type 0
Listed view says code old new count (Ok left) = IsListed view says code old new count left
Listed view says code old new count (Err e) = (code ≡ number_of e) × (new ≡ old) × (count ≡ 0)

-- A list without a fault behind it.
abbrev pub whole_list : {Z : Type 0} → List Z → Left Z
whole_list items = record { items = items; fault = None }

-- What a call owes that may take memory, where reading gives a value: `owes` says it, or memory was refused and nothing is put. Where reading is refused nothing is put.
abbrev pub Obtained : {X A : Type 0} → (A → Type 0) → ℕ → List X → List X → ℕ → Result A Error → Type 0
Obtained owes code old new count (Ok x) = owes x ⊎ ((code ≡ 22) × (new ≡ old) × (count ≡ 0))
Obtained owes code old new count (Err e) = IsRefused code e × (new ≡ old) × (count ≡ 0)

-- What such a call owes where it takes no memory: `owes` says it, or the error's number is returned, and nothing is put.
abbrev pub WithoutMemory : {X A : Type 0} → (A → Type 0) → ℕ → List X → List X → ℕ → Result A Error → Type 0
WithoutMemory owes code old new count (Ok x) = owes x
WithoutMemory owes code old new count (Err e) = (code ≡ number_of e) × (new ≡ old) × (count ≡ 0)
