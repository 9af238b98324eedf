-- What arguments name, or the first that is wrong.
use Rattle.std.specs.Prelude.{◌≡◌, ℕ, Result, Ok, Err}
use Rattle.pdb_text.specs.declared.words.WordsError.{WordsError}
use Rattle.pdb_text.specs.declared.words.WordsError.TheVariants.{BadWord, OutOfMemory}

-- a call returned the value of arguments, seen by view, or the index of the wrong one, or was out of memory
abbrev pub Tells : {X Y : Type 0} → (X → Y) → Result X WordsError → Result Y ℕ → Type 0
Tells view (Ok x) told = told ≡ Ok (view x)
Tells view (Err (BadWord p)) told = told ≡ Err p
Tells view (Err OutOfMemory) told = Unit {0}
