-- The text of `types`.
use Rattle.std.specs.Prelude.{ℕ, nat_lt, if◌then◌else◌, List, [], ◌∷◌, ◌++◌, flat_map, Option, Some, None}
use Rattle.pdb_base.specs.declared.index.TypeIndex.{TypeIndex}
use Rattle.pdb.specs.Container.{stream_of}
use Rattle.pdb.specs.Items.{ItemEntry, item_with, items_in}
use Rattle.pdb.specs.Left.{Left}
use Rattle.pdb_resolve.specs.FileParts.{items_listed, items_where}
use Rattle.pdb_types.specs.FullTypes.{definitions_among, first_definition, says_of_item}
use Rattle.pdb_types.specs.MemberLists.{members_of}
use Rattle.pdb_types.specs.TypeSays.{TagSays, TypeSays}
use Rattle.pdb_types.specs.TypeSays.TypeSays.{Enumeration}
use Rattle.tool_output.specs.Absent.{if_there}
use Rattle.tool_output.specs.ErrorLine.{fault_line, told}
use Rattle.tool_types.specs.MemberTexts.{members_text}
use Rattle.tool_types.specs.TypeLines.{Types, item_line, missing_line, simple_line, tag_said}

-- the type that values of a type are numbers of; index 0 where it is no enumeration
abbrev pub underlying_of : Option TypeSays → TypeIndex
underlying_of (Some (Enumeration underlying tag)) = underlying
underlying_of says = record { 0 = 0 }

-- the lines of the members of what has a tag; of what is only declared none
abbrev pub members_by : Types → TypeIndex → Option TagSays → List ℕ
members_by t underlying None = []
members_by t underlying (Some tag) = if tag.is_forward then [] else members_text t underlying (members_of t.items tag.fields.0)

-- the line of a type, and those of its members
abbrev pub lines_by : Types → ItemEntry → Option TypeSays → List ℕ
lines_by t x says = item_line t x says ++ members_by t (underlying_of says) (tag_said says)

abbrev pub item_lines : Types → ItemEntry → List ℕ
item_lines t x = lines_by t x (says_of_item (Some x))

abbrev pub found_lines : Types → ℕ → Option ItemEntry → List ℕ
found_lines t i None = missing_line i
found_lines t i (Some x) = item_lines t x

-- of the type of an index
unfoldable pub index_lines : Types → ℕ → List ℕ
index_lines t i = if nat_lt i 0x1000 then simple_line t i else found_lines t i (item_with t.items i)

-- of the types that are left, and then that of the fault
abbrev pub types_left : Types → Left ItemEntry → List ℕ
types_left t left = flat_map (item_lines t) left.items ++ fault_line left.fault

-- the types of a stream
abbrev pub types_among : List ItemEntry → Types
types_among items = record { items = items; first = first_definition (definitions_among items) }

-- the text of a stream's types
abbrev pub stream_text : List ℕ → List ℕ
stream_text b = told (items_in b) (types_left (types_among (items_where (Some b))))

-- the types of a file
abbrev pub types_in : List ℕ → Types
types_in file = types_among (items_listed file 2)

-- the text of all types where no index is given
abbrev pub types_command : List ℕ → List ℕ → List ℕ
types_command file [] = if_there file 2 (told (stream_of file 2 None) stream_text)
types_command file (i ∷ is) = flat_map (index_lines (types_in file)) (i ∷ is)
