-- What is printed, and how much of it was.
use Rattle.std.specs.Prelude.{◌≡◌, ℕ, ◌≤◌, Bool, true, false, not, ◌||◌, zero, suc, List, [], ◌∷◌, ◌++◌, length, take, Option, Result, Ok, Err}
use Rattle.std.specs.Io.KnownBytes.{Appends}
use Rattle.std.specs.List.{filter, list_any}
use Rattle.pdb_text.specs.Written.{WroteFront}

-- ---- texts

-- the bytes of a text, and whether it was made of something that has an error
pub record Shown : Type 0 where
  pub bytes : List ℕ
  pub damaged : Bool

-- one text and then another
abbrev pub join : Shown → Shown → Shown
join a b = record { bytes = a.bytes ++ b.bytes; damaged = a.damaged || b.damaged }

abbrev pub nothing : Shown
nothing = record { bytes = []; damaged = false }

-- what is printed of each thing, one after another
abbrev pub all_shown : {X : Type 0} → (X → Shown) → List X → Shown
all_shown text [] = nothing
all_shown text (x ∷ xs) = join (text x) (all_shown text xs)

-- ---- texts with marks: a text is composed with a byte 0 wherever an error was met; names and lines have none

abbrev pub is_mark : ℕ → Bool
is_mark zero = true
is_mark (suc b) = false

-- a text that was made of something with an error
abbrev pub mark : List ℕ
mark = 0 ∷ []

unfoldable pub unmarked : List ℕ → List ℕ
unmarked text = filter (λ b. not (is_mark b)) text

unfoldable pub has_mark : List ℕ → Bool
has_mark text = list_any is_mark text

-- what is printed of a text with marks
abbrev pub shown : List ℕ → Shown
shown text = record { bytes = unmarked text; damaged = has_mark text }

-- ---- printing

-- what a printer's writer has, how many writes failed, whether a text had an error, and whether one had bytes
pub record Printing : Type 0 where
  pub contents : Option (List ℕ)
  pub failures : ℕ
  pub damaged : Bool
  pub some : Bool

abbrev pub has_bytes : List ℕ → Bool
has_bytes [] = false
has_bytes (b ∷ bs) = true

-- all of a text was printed
pub record Printed (text : Shown) (old new : Printing) : Type 0 where
  pub contents : Appends old.contents new.contents text.bytes
  pub damaged : new.damaged ≡ (old.damaged || text.damaged)
  pub some : new.some ≡ (old.some || has_bytes text.bytes)

-- a beginning of it was, and damage is noted only where the text has some
pub record Halted (text : Shown) (old new : Printing) : Type 0 where
  pub contents : WroteFront old.contents new.contents text.bytes
  pub damaged : new.damaged ≡ true → (old.damaged || text.damaged) ≡ true

-- a call printed a text; where it failed, a beginning of it
abbrev pub Prints : {X E : Type 0} → Shown → Printing → Printing → Result X E → Type 0
Prints text old new (Ok x) = Printed text old new
Prints text old new (Err e) = Halted text old new

-- all of the first of some things was printed
abbrev pub PrintedFirst : {X : Type 0} → (X → Shown) → List X → Printing → Printing → Type 0
PrintedFirst text xs old new = (n : ℕ) × (n ≤ length xs) × Printed (all_shown text (take n xs)) old new

-- a beginning of a whole was printed, and the rest is left
abbrev pub Before : Printing → Printing → List ℕ → List ℕ → Type 0
Before old new rest whole = (done : List ℕ) × Printed (shown done) old new × (done ++ rest ≡ whole)
