-- What the program knows of modules and of their PDBs.
use Rattle.std.specs.Prelude.{◌≡◌, ℕ, List, Bool, true, Option}
use Rattle.tool_stacks.specs.declared.symbols.FoundPdb.{FoundPdb}

-- the PDB of a module's name, whether a function of a PDB begins at an address, and the frames of an address
pub record Answers : Type 0 where
  pub pdb_of : List ℕ → Option FoundPdb
  pub begins_function : ℕ → ℕ → Bool
  pub frames : ℕ → ℕ → Option (List ℕ)

-- the answers, and whether all that was answered so far is told by them
pub record Asked : Type 0 where
  pub answers : Answers
  pub told : Bool

-- what any number of questions leaves
pub record Continues (old new : Asked) : Type 0 where
  pub answers : new.answers ≡ old.answers
  pub told : new.told ≡ true → old.told ≡ true

-- what holds of the answers, where they tell all up to the new state
abbrev pub Tells : Asked → Asked → (Answers → Type 0) → Type 0
Tells old new P = new.told ≡ true → P old.answers
