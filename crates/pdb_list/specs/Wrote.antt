-- What a run wrote, by how it ended.
use Rattle.std.specs.Prelude.{ℕ, List, flat_map, Option, Result, Ok, Err}
use Rattle.std.specs.Io.KnownBytes.{Appends}
use Rattle.pdb_text.specs.Written.{WroteFirst, WroteFront}
use Rattle.pdb_list.specs.declared.engine.RunError.{RunError}
use Rattle.pdb_list.specs.declared.engine.RunError.TheVariants.{OutOfMemory, Open, Read, Write}

-- what was written of the texts of things by a run that ended so: all; those of some first things, whole; or a beginning
abbrev pub Wrote : {X : Type 0} → (X → List ℕ) → Option (List ℕ) → Option (List ℕ) → List X → Result (Unit {0}) RunError → Type 0
Wrote text old new xs (Ok _) = Appends old new (flat_map text xs)
Wrote text old new xs (Err OutOfMemory) = WroteFirst text old new xs
Wrote text old new xs (Err Read) = WroteFirst text old new xs
Wrote text old new xs (Err Write) = WroteFront old new (flat_map text xs)
Wrote text old new xs (Err (Open e)) = ⊥
