-- Names and sizes of types as rows.
use Rattle.std.specs.Prelude.{◌≡◌, ◌⊎◌, ℕ, ◌+◌, ℤ, List, [], ◌∷◌, length, map, Option, Result, Ok, Err}
use Rattle.std.specs.List.{flat_map}
use Rattle.std.specs.Option.{unwrap_or}
use Rattle.pdb.specs.Error.{Error}
use Rattle.pdb_items.specs.Items.{ItemEntry}
use Rattle.pdb_types.specs.FullTypes.{definitions_among, first_definition, full_index, size_of}
use Rattle.pdb_types.specs.TypeTexts.{shown_name, small_size}
use Rattle.pdb_c.specs.Rooms.{over}
use Rattle.pdb_c.specs.Boundary.{IsRefused, IsUntouched, room_code, both_code}
use Rattle.pdb_c.specs.LineRows.{told}
use Rattle.pdb_c.specs.declared.type_names.PdbTypeName.{PdbTypeName}
use Rattle.pdb_c.specs.declared.type_sizes.PdbTypeSize.{PdbTypeSize}

-- ---- the types of a stream, by the full definitions among them

-- the name of the type of an index
unfoldable pub type_text : List ItemEntry → ℕ → List ℕ
type_text types i = shown_name types (first_definition (definitions_among types)) i

-- its size in bytes
unfoldable pub type_size : List ItemEntry → ℕ → Option ℤ
type_size types i = size_of types (first_definition (definitions_among types)) i

-- the index of the full definition for which it stands
unfoldable pub full_type : List ItemEntry → ℕ → Option ℕ
full_type types i = full_index types (first_definition (definitions_among types)) i

-- ---- names

abbrev pub type_name_row : ℕ → List ℕ → PdbTypeName
type_name_row at name = record { at = at; size = length name }

-- the rows of names that stand one after the other from an offset on, and the bytes of the names
abbrev pub type_name_rows : ℕ → List (List ℕ) → List PdbTypeName
type_name_rows at [] = []
type_name_rows at (name ∷ names) = type_name_row at name ∷ type_name_rows (at + length name) names

abbrev pub joined : List (List ℕ) → List ℕ
joined names = flat_map (λ name. name) names

-- what a call put: the rows of names, and their bytes, each as far as its buffer reaches
pub record AreTypeNames (texts : List (List ℕ)) (c : ℕ) (before after : List PdbTypeName) (old new : List ℕ) (total : ℕ) : Type 0 where
  pub rows : after ≡ over (type_name_rows 0 texts) before
  pub names : new ≡ over (joined texts) old
  pub size : total ≡ length (joined texts)
  pub code : c ≡ both_code (room_code (length before) (length (type_name_rows 0 texts))) (room_code (length old) (length (joined texts)))

-- what a call put of the names of types of these indices, where the types were read: nothing after an error, or where it is out of memory
abbrev pub TypeNamesTold : List ℕ → ℕ → List PdbTypeName → List PdbTypeName → List ℕ → List ℕ → ℕ → Result (List ItemEntry) Error → Type 0
TypeNamesTold indices c before after old new total (Ok types) = AreTypeNames (map (type_text types) indices) c before after old new total ⊎ ((c ≡ 22) × (after ≡ before) × IsUntouched old new total)
TypeNamesTold indices c before after old new total (Err e) = IsRefused c e × (after ≡ before) × IsUntouched old new total

-- ---- sizes

-- a size that is a number of 64 bits, and an index, as a row
abbrev pub sized_row : Option ℕ → Option ℕ → PdbTypeSize
sized_row size full = record { size = unwrap_or size 0; full = unwrap_or full 0; has_size = told size }

abbrev pub type_size_row : List ItemEntry → ℕ → PdbTypeSize
type_size_row types i = sized_row (small_size (type_size types i)) (full_type types i)

-- what a call put: the rows of sizes, as far as its buffer reaches
pub record AreTypeSizes (sizes : List PdbTypeSize) (c : ℕ) (before after : List PdbTypeSize) : Type 0 where
  pub rows : after ≡ over sizes before
  pub code : c ≡ room_code (length before) (length sizes)

abbrev pub TypeSizesTold : List ℕ → ℕ → List PdbTypeSize → List PdbTypeSize → Result (List ItemEntry) Error → Type 0
TypeSizesTold indices c before after (Ok types) = AreTypeSizes (map (type_size_row types) indices) c before after ⊎ ((c ≡ 22) × (after ≡ before))
TypeSizesTold indices c before after (Err e) = IsRefused c e × (after ≡ before)
