-- What a writer took of some bytes, and a buffer of a text.
use Rattle.std.specs.Prelude.{◌≡◌, ℕ, ◌≤◌, List, ◌++◌, length, take, flat_map, Option}
use Rattle.std.specs.Io.KnownBytes.{Appends}

-- a beginning of the bytes was written
abbrev pub WroteFront : Option (List ℕ) → Option (List ℕ) → List ℕ → Type 0
WroteFront old new bytes = (n : ℕ) × (n ≤ length bytes) × Appends old new (take n bytes)

-- the texts of some first things were written, whole
abbrev pub WroteFirst : {X : Type 0} → (X → List ℕ) → Option (List ℕ) → Option (List ℕ) → List X → Type 0
WroteFirst text old new xs = (n : ℕ) × (n ≤ length xs) × Appends old new (flat_map text (take n xs))

-- a beginning of a text stands behind what a buffer had
pub record PutFront (old new text : List ℕ) : Type 0 where
  pub count : ℕ
  pub is : new ≡ old ++ take count text
