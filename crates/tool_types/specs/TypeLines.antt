-- The lines of types in `types`.
use Rattle.std.specs.Prelude.{ℕ, ℤ, Bool, not, ◌||◌, if◌then◌else◌, List, [], ◌++◌, codes, Option, Some, None, is_some}
use Rattle.std.specs.Fmt.{signed_decimal}
use Rattle.pdb.specs.Items.{ItemEntry}
use Rattle.pdb_items.specs.Ids.{kind_at}
use Rattle.pdb_text.specs.Digits.{hex}
use Rattle.pdb_text.specs.OneLine.{one_line}
use Rattle.pdb_types.specs.FullTypes.{full_index, size_of, tag_in}
use Rattle.pdb_types.specs.TypeSays.{TagSays, TypeSays, unique_name_of}
use Rattle.pdb_types.specs.TypeSays.TypeSays.{Enumeration}
use Rattle.pdb_types.specs.TypeTexts.{shown_name}
use Rattle.tool_fields.specs.TypeKinds.{type_kind_name}
use Rattle.tool_fields.specs.ValueTexts.{name_or_number}

-- the types of a file, and the first definition of each key
pub record Types : Type 0 where
  pub items : List ItemEntry
  pub first : List ℕ → Option ℕ

-- the name of the type of an index, on one line
abbrev pub type_text : Types → ℕ → List ℕ
type_text t i = one_line (shown_name t.items t.first i)

-- ---- tags

-- its unique name is there, where it has one
abbrev pub is_whole : TagSays → Bool
is_whole tag = not tag.has_unique_name || is_some (unique_name_of tag)

abbrev pub if_whole : Option TagSays → Option TagSays
if_whole None = None
if_whole (Some tag) = if is_whole tag then Some tag else None

-- the tag of what a record says
abbrev pub tag_said : Option TypeSays → Option TagSays
tag_said says = if_whole (tag_in says)

-- ---- fields

abbrev pub index_text : Option ℕ → List ℕ
index_text None = codes "-"
index_text (Some i) = hex 8 i

-- of a type that is only declared, the index of its full definition
abbrev pub forward_text : Types → ℕ → Option TagSays → List ℕ
forward_text t i None = []
forward_text t i (Some tag) = if tag.is_forward then codes " forward=" ++ index_text (full_index t.items t.first i) else []

abbrev pub size_field : Option ℤ → List ℕ
size_field None = []
size_field (Some size) = codes " size=" ++ signed_decimal size

-- of an enumeration that isn't only declared, the name of its underlying type
abbrev pub underlying_text : Types → Option TypeSays → List ℕ
underlying_text t (Some (Enumeration underlying tag)) = if tag.is_forward then [] else codes ": " ++ type_text t underlying.0
underlying_text t says = []

-- ---- lines

abbrev pub kind_field : ℕ → List ℕ
kind_field kind = codes " " ++ name_or_number kind (type_kind_name kind)

-- what stands behind the index: the size, and the name
abbrev pub sized_name : Types → ℕ → List ℕ
sized_name t i = size_field (size_of t.items t.first i) ++ codes " " ++ type_text t i

-- the line of an item that says this
unfoldable pub item_line : Types → ItemEntry → Option TypeSays → List ℕ
item_line t x says =
    hex 8 x.index ++ kind_field (kind_at x.bytes) ++ forward_text t x.index (tag_said says) ++ sized_name t x.index
    ++ underlying_text t says ++ codes "\n"

-- that of a simple type, which has no item
unfoldable pub simple_line : Types → ℕ → List ℕ
simple_line t i = hex 8 i ++ sized_name t i ++ codes "\n"

-- that of an index without an item
abbrev pub missing_line : ℕ → List ℕ
missing_line i = hex 8 i ++ codes " ??\n"
