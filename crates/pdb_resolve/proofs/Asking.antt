-- What an accessor answered, as if it weren't there where it is refused.
use Rattle.std.proofs.Common.{◌≡◌, Result, Ok, Err, Bool, false, true, ◌<◌, length, Option, Some, None, Bor, refl, ap, ◌∙◌, arith}
use Rattle.std.specs.Prelude.{option_copied, IfOk, IfErr, IsErrOf, OnOk}
use Rattle.pdb.specs.Error.{Error}
use Rattle.pdb.specs.Error.TheVariants.{IoError, OutOfMemory}
use Rattle.pdb.specs.Refusal.{Gives, Fails, ◌>>=◌}
use Rattle.pdb_places.specs.AsIfEmpty.{if_found, if_read, OnlyFails}
use Rattle.pdb_resolve.specs.declared.part.Part.{Part}
use Rattle.pdb_resolve.specs.KeptParts.{IsAskedOf}

fails_told : {Y : Type 0} (io : Type 0) (e : Error) (reading : Result Y Error) → Fails io e reading → Fails (Unit {0}) e reading
fails_told io IoError reading h = tt
fails_told io OutOfMemory reading h = tt
fails_told io e reading h = h

pub told : {X Y : Type 0} (view : X → Y) (io : Type 0) (r : Result X Error) (reading : Result Y Error) → Gives view io r reading → Gives view (Unit {0}) r reading
told view io (Ok x) reading h = h
told view io (Err e) reading h = fails_told io e reading h

failed : {X Y : Type 0} (view : X → Y) (io : Type 0) (r : Result X Error) (reading : Result Y Error) → Gives view io r reading → r ≡ Err IoError → io
failed view io (Ok x) reading h e = absurd cc
failed view io (Err IoError) reading h e = h
failed view io (Err d) reading h e = absurd cc

-- what was read, and what then can't be read
pub read_is : {A : Type 0} (r : Result A Error) (x : A) → if_read r ≡ Some x → r ≡ Ok x
read_is (Ok y) x e = cc
read_is (Err d) x e = absurd cc

pub not_read : {A B : Type 0} (r : Result A Error) (next : A → Result B Error) → if_read r ≡ None → if_read (r >>= next) ≡ None
not_read (Ok y) next e = absurd cc
not_read (Err d) next e = refl

-- the same where the call's error was passed on
pub passed : {X Y : Type 0} (view : X → Y) (io : Type 0) (r : Result X Error) (reading : Result Y Error) (e : Error) → Gives view io r reading → (r ≡ Err e) × OnlyFails (Unit {0}) e → OnlyFails io e
passed view io r reading IoError h p = failed view io r reading h p.0
passed view io r reading OutOfMemory h p = tt
passed view io r reading e h p = absurd p.1

-- the same where the call says when it fails so
pub failed_on : {X : Type 0} (io : Type 0) (r : Result X Error) (e : Error) → (IsErrOf r IoError → io) → (r ≡ Err e) × OnlyFails (Unit {0}) e → OnlyFails io e
failed_on io (Ok x) e f p = absurd cc
failed_on io (Err d) IoError f p = f cc
failed_on io r OutOfMemory f p = tt
failed_on io r e f p = absurd p.1

-- what was kept is what was read
pub asked_then : {A : Type 0} (told : Bool) (part : Part A) (r : Result (Option (Bor A)) Error) (reading : Result A Error)
    → (told ≡ true → IfOk r (λ o. option_copied o ≡ if_read reading)) → IfOk r (λ o. part.there ≡ o) → OnOk r (part.asked ≡ true)
    → IfErr r (λ _. part.asked ≡ false) → IfErr r (λ _. 0 < length part.rooms.now) → IsAskedOf told (if_read reading) part
asked_then told part (Ok o) reading is kept asked again room = record { read = λ t h. ap option_copied kept ∙ is t; room = λ h. absurd cc }
asked_then told part (Err e) reading is kept asked again room = record { read = λ t h. absurd cc; room = λ h. room }

-- where nothing was kept the room is still there
pub room_then : {A B : Type 0} (old new : Part A) (r : Result B Error) → 0 < length old.rooms.now → IfErr r (λ _. length new.rooms.now ≡ length old.rooms.now) → IfErr r (λ _. 0 < length new.rooms.now)
room_then old new (Ok o) room same = tt
room_then old new (Err e) room same = omega (arith, room, same)

-- what was found
pub found_read : {A : Type 0} (r : Result (Option A) Error) (x : Option A) → Some x ≡ if_read r → x ≡ if_found r
found_read (Ok o) x e = cc
found_read (Err d) x e = absurd cc
