-- What types say, which records stand for others, and how large types are.
use Rattle.std.specs.Prelude.{ℕ, zero, suc, ℤ, pos, Bool, true, false, List, ◌∷◌, Option, Some, None, Result, Ok, Err, nat_lt, if◌then◌else◌}
use Rattle.std.specs.List.{find, filter_map}
use Rattle.std.specs.Cmp.Lexicographic.{slice_cmp}
use Rattle.std.specs.Ordering.{nat_cmp, is_eq}
use Rattle.pdb_base.specs.declared.error.Error.{Error}
use Rattle.pdb_items.specs.Items.{ItemEntry, item_with}
use Rattle.pdb_items.specs.Ids.{kind_at}
use Rattle.pdb_types.specs.SimpleTypes.{simple_size}
use Rattle.pdb_types.specs.TypeFlags.{pointer_size}
use Rattle.pdb_types.specs.TypeReading.{type_at}
use Rattle.pdb_types.specs.TypeSays.{TypeSays, TagSays, unique_name_of}
use Rattle.pdb_types.specs.TypeSays.TypeSays.{Modifier, Pointer, Array, Bitfield, Class, Union, Enumeration}

-- what a type record says, where it can be read
abbrev pub said_type : Result (Option TypeSays) Error → Option TypeSays
said_type (Ok d) = d
said_type (Err e) = None

abbrev pub says_of_item : Option ItemEntry → Option TypeSays
says_of_item None = None
says_of_item (Some x) = said_type (type_at x.bytes)

-- what the item of an index says; nothing where there is no such item, or its kind has no layout, or a field isn't there
abbrev pub says_of : List ItemEntry → ℕ → Option TypeSays
says_of types i = says_of_item (item_with types i)

-- ---- full definitions

abbrev pub tag_in : Option TypeSays → Option TagSays
tag_in (Some (Class size tag)) = Some tag
tag_in (Some (Union size tag)) = Some tag
tag_in (Some (Enumeration underlying tag)) = Some tag
tag_in d = None

-- the kind, whether the name is unique, and the name
abbrev pub named_key : ℕ → ℕ → Option (List ℕ) → Option (List ℕ)
named_key kind unique None = None
named_key kind unique (Some name) = Some (kind ∷ unique ∷ name)

-- by what a tag is known, as one list of numbers: its unique name among those of its kind, or its name, where it has no unique one; none where its unique name isn't there
abbrev pub tag_key : ℕ → TagSays → Option (List ℕ)
tag_key kind t = if t.has_unique_name then named_key kind 1 (unique_name_of t) else Some (kind ∷ 0 ∷ t.name)

-- a record that defines a type: by what its tag is known, and its index
pub record TypeDefinition : Type 0 where
  pub key : List ℕ
  pub index : ℕ

abbrev pub defined : ℕ → Option (List ℕ) → Option TypeDefinition
defined index None = None
defined index (Some key) = Some (record { key = key; index = index })

abbrev pub defined_by : ItemEntry → Option TagSays → Option TypeDefinition
defined_by x None = None
defined_by x (Some t) = if t.is_forward then None else defined x.index (tag_key (kind_at x.bytes) t)

-- what an item defines: its record has a tag, and doesn't only declare the type
unfoldable pub definition_of : ItemEntry → Option TypeDefinition
definition_of x = defined_by x (tag_in (says_of_item (Some x)))

-- the definitions of a list of types, in its order
unfoldable pub definitions_among : List ItemEntry → List TypeDefinition
definitions_among types = filter_map definition_of types

-- the first definition that is known by a key
abbrev pub is_known_by : List ℕ → TypeDefinition → Bool
is_known_by key d = is_eq (slice_cmp nat_cmp d.key key)

abbrev pub index_of : Option TypeDefinition → Option ℕ
index_of None = None
index_of (Some d) = Some d.index

abbrev pub first_definition : List TypeDefinition → List ℕ → Option ℕ
first_definition ds key = index_of (find (is_known_by key) ds)

-- the index of the full definition of an item with a tag: its own, or the first one that is known by the same key
abbrev pub stands_for : (List ℕ → Option ℕ) → Bool → ℕ → Option (List ℕ) → Option ℕ
stands_for first is_forward index None = None
stands_for first true index (Some key) = first key
stands_for first false index (Some key) = Some index

abbrev pub full_by_tag : (List ℕ → Option ℕ) → ItemEntry → Option TagSays → Option ℕ
full_by_tag first x None = None
full_by_tag first x (Some t) = stands_for first t.is_forward x.index (tag_key (kind_at x.bytes) t)

abbrev pub full_of_item : (List ℕ → Option ℕ) → Option ItemEntry → Option ℕ
full_of_item first None = None
full_of_item first (Some x) = full_by_tag first x (tag_in (says_of_item (Some x)))

-- the index of the full definition of the type of an index
unfoldable pub full_index : List ItemEntry → (List ℕ → Option ℕ) → ℕ → Option ℕ
full_index types first i = full_of_item first (item_with types i)

-- ---- sizes

abbrev pub says_of_full : List ItemEntry → Option ℕ → Option TypeSays
says_of_full types None = None
says_of_full types (Some i) = says_of types i

abbrev pub natural : Option ℕ → Option ℤ
natural None = None
natural (Some n) = Some (pos n)

-- the size of a full definition, by the sizes of the types that it refers to
abbrev pub full_size : (ℕ → Option ℤ) → Option TypeSays → Option ℤ
full_size sub (Some (Class size tag)) = Some size
full_size sub (Some (Union size tag)) = Some size
full_size sub (Some (Enumeration underlying tag)) = sub underlying.0
full_size sub d = None

-- the size of a type, by what it and its full definition say
abbrev pub size_by : (ℕ → Option ℤ) → Option TypeSays → Option TypeSays → Option ℤ
size_by sub full (Some (Modifier s)) = sub s.underlying.0
size_by sub full (Some (Bitfield s)) = sub s.underlying.0
size_by sub full (Some (Pointer s)) = natural (pointer_size s.attributes.0)
size_by sub full (Some (Array s)) = Some s.size
size_by sub full (Some (Class size tag)) = full_size sub full
size_by sub full (Some (Union size tag)) = full_size sub full
size_by sub full (Some (Enumeration underlying tag)) = full_size sub full
size_by sub full d = None

-- the size of the type of an index, by at most so many steps from one type to another
unfoldable pub size_within : List ItemEntry → (List ℕ → Option ℕ) → ℕ → ℕ → Option ℤ
size_within types first zero i = if nat_lt i 0x1000 then natural (simple_size i) else None
size_within types first (suc d) i =
    if nat_lt i 0x1000 then natural (simple_size i)
    else size_by (size_within types first d) (says_of_full types (full_index types first i)) (says_of types i)

-- the size of the type of an index, in bytes
unfoldable pub size_of : List ItemEntry → (List ℕ → Option ℕ) → ℕ → Option ℤ
size_of types first i = size_within types first 64 i
