-- What is refused is as if it weren't there.
use Rattle.std.specs.Prelude.{List, [], Option, Some, None, Result, Ok, Err}
use Rattle.pdb.specs.Error.{Error}
use Rattle.pdb.specs.Error.TheVariants.{IoError, OutOfMemory}
use Rattle.pdb.specs.Left.{Left}

-- the items of a list before its fault; none of one that is refused
abbrev pub items_of : {A : Type 0} → Result (Left A) Error → List A
items_of (Ok left) = left.items
items_of (Err e) = []

-- what was read, where it wasn't refused
abbrev pub if_read : {A : Type 0} → Result A Error → Option A
if_read (Ok x) = Some x
if_read (Err e) = None

-- the same, and else another one
abbrev pub read_or : {A : Type 0} → Result A Error → A → A
read_or (Ok x) other = x
read_or (Err e) other = other

-- what was found, where it wasn't refused
abbrev pub if_found : {A : Type 0} → Result (Option A) Error → Option A
if_found (Ok x) = x
if_found (Err e) = None

-- the only refusals that are passed on: out of memory at any time, and that the source failed, where io holds
abbrev pub OnlyFails : Type 0 → Error → Type 0
OnlyFails io OutOfMemory = Unit {0}
OnlyFails io IoError = io
OnlyFails io e = ⊥
