-- The lines of members in `types`.
use Rattle.std.specs.Prelude.{ℕ, ℤ, Bool, ◌==◌, ◌||◌, if◌then◌else◌, List, [], ◌++◌, codes, flat_map, Option, Some, None, Result, Ok, Err}
use Rattle.std.specs.Fmt.{decimal, signed_decimal}
use Rattle.pdb_base.specs.declared.error.Error.{Error}
use Rattle.pdb_base.specs.declared.index.TypeIndex.{TypeIndex}
use Rattle.pdb_base.specs.declared.variant.Variant.{Variant}
use Rattle.pdb_base.specs.Left.{Left}
use Rattle.pdb_text.specs.OneLine.{one_line}
use Rattle.pdb_items.specs.Items.{item_with}
use Rattle.pdb_types.specs.Enumerators.{bit_position_in, enumerator_number}
use Rattle.pdb_types.specs.MemberSays.{MemberSays, access_number, method_number}
use Rattle.pdb_types.specs.MemberSays.MemberSays.{BaseClass, VirtualBaseClass, VirtualTablePointer, VirtualTableOffset, FriendClass, FriendFunction, Enumerate, Member, StaticMember, Method, Nested, OneMethod, More, Endless}
use Rattle.pdb_types.specs.Overloads.{overloads_of}
use Rattle.pdb_types.specs.TypeRows.{value_of}
use Rattle.pdb_types.specs.declared.members.FieldAttributes.{FieldAttributes}
use Rattle.pdb_types.specs.declared.overloads.MethodListEntry.{MethodListEntry}
use Rattle.tool_output.specs.ErrorLine.{error_line}
use Rattle.tool_printing.specs.Printing.{mark}
use Rattle.tool_fields.specs.FieldTexts.{offset_field}
use Rattle.tool_types.specs.TypeLines.{Types, type_text}
use Rattle.tool_fields.specs.ValueTexts.{variant_text}

-- ---- attributes

abbrev pub access_text : FieldAttributes → List ℕ
access_text a =
    if access_number a.0 == 1 then codes " access=private"
    else if access_number a.0 == 2 then codes " access=protected"
    else []

abbrev pub method_text : FieldAttributes → List ℕ
method_text a =
    if method_number a.0 == 1 || method_number a.0 == 4 then codes " kind=virtual"
    else if method_number a.0 == 2 then codes " kind=static"
    else if method_number a.0 == 3 then codes " kind=friend"
    else if method_number a.0 == 5 || method_number a.0 == 6 then codes " kind=pure"
    else []

-- the offset in the table of virtual functions
abbrev pub entry_text : Option ℕ → List ℕ
entry_text None = []
entry_text (Some offset) = codes " entry=" ++ decimal offset

-- the first bit of a bit field
abbrev pub bit_text : Option ℕ → List ℕ
bit_text None = []
bit_text (Some position) = codes " bit=" ++ decimal position

-- ---- lines

-- a name, and its type behind a colon
unfoldable pub named_type : Types → List ℕ → TypeIndex → List ℕ
named_type t name index = codes " " ++ (one_line name ++ (codes ": " ++ (type_text t index.0 ++ codes "\n")))

-- a type behind a word
abbrev pub typed_word : Types → List ℕ → TypeIndex → List ℕ
typed_word t word index = codes "  " ++ (word ++ (codes " " ++ (type_text t index.0 ++ codes "\n")))

abbrev pub method_line : Types → FieldAttributes → Option ℕ → List ℕ → TypeIndex → List ℕ
method_line t a entry name index = codes "  method" ++ (method_text a ++ (entry_text entry ++ (access_text a ++ named_type t name index)))

-- a function of a name whose list isn't there, or isn't whole
abbrev pub unread_method : List ℕ → List ℕ
unread_method name = codes "  method " ++ (one_line name ++ codes "\n")

abbrev pub overload_line : Types → List ℕ → MethodListEntry → List ℕ
overload_line t name m = method_line t m.attributes m.vtable_offset name m.method_type

abbrev pub if_cut : List ℕ → Option Error → List ℕ
if_cut name None = []
if_cut name (Some e) = unread_method name

-- the functions of a name
abbrev pub overloads_left_text : Types → List ℕ → Left MethodListEntry → List ℕ
overloads_left_text t name left = flat_map (overload_line t name) left.items ++ if_cut name left.fault

abbrev pub overloads_text : Types → List ℕ → Result (Left MethodListEntry) Error → List ℕ
overloads_text t name (Ok left) = overloads_left_text t name left
overloads_text t name (Err e) = unread_method name

-- who may use what has a type, and the type
unfoldable pub accessed_type : Types → FieldAttributes → TypeIndex → List ℕ
accessed_type t a index = access_text a ++ (codes " " ++ (type_text t index.0 ++ codes "\n"))

-- a word before a number
unfoldable pub numbered : List ℕ → List ℕ → List ℕ
numbered word text = word ++ text

unfoldable pub base_line : Types → FieldAttributes → TypeIndex → Variant → List ℕ
base_line t a index offset = codes "  base offset=" ++ (variant_text offset ++ accessed_type t a index)

abbrev pub base_word : Bool → List ℕ
base_word direct = if direct then codes "  virtual_base vbptr=" else codes "  indirect_base vbptr="

unfoldable pub base_places : Bool → Variant → Variant → List ℕ
base_places direct pointer entry = base_word direct ++ (variant_text pointer ++ (codes " entry=" ++ variant_text entry))

-- a type behind a blank
unfoldable pub type_behind : Types → TypeIndex → List ℕ
type_behind t index = codes " " ++ (type_text t index.0 ++ codes "\n")

abbrev pub table_line : Types → TypeIndex → ℤ → List ℕ
table_line t table offset = codes "  vftable" ++ offset_field offset ++ type_behind t table

unfoldable pub data_line : Types → FieldAttributes → TypeIndex → Variant → List ℕ → List ℕ
data_line t a index offset name =
    numbered (codes "  member offset=") (variant_text offset) ++ bit_text (bit_position_in (item_with t.items index.0)) ++ access_text a ++ named_type t name index

unfoldable pub enumerator_line : Types → TypeIndex → Variant → List ℕ → List ℕ
enumerator_line t underlying value name =
    numbered (codes "  enumerator value=") (signed_decimal (enumerator_number t.items underlying.0 (value_of value))) ++ (codes " " ++ (one_line name ++ codes "\n"))

-- the lines of a function, a friend, a type or a pointer to a table
abbrev pub other_line : Types → MemberSays → List ℕ
other_line t (VirtualTablePointer table) = typed_word t (codes "vftable") table
other_line t (VirtualTableOffset table offset) = table_line t table offset
other_line t (FriendClass index) = typed_word t (codes "friend") index
other_line t (FriendFunction function name) = codes "  friend" ++ named_type t name function
other_line t (Method count list name) = overloads_text t name (overloads_of t.items list.0)
other_line t (Nested index name) = codes "  nested" ++ named_type t name index
other_line t (OneMethod a index entry name) = method_line t a entry name index
other_line t m = []

-- the lines of a member; the values of enumerators are numbers of an underlying type
abbrev pub member_line : Types → TypeIndex → MemberSays → List ℕ
member_line t underlying (BaseClass a index offset) = base_line t a index offset
member_line t underlying (VirtualBaseClass direct a index pointer entry) = base_places direct pointer entry ++ accessed_type t a index
member_line t underlying (Enumerate a value name) = enumerator_line t underlying value name
member_line t underlying (Member a index offset name) = data_line t a index offset name
member_line t underlying (StaticMember a index name) = codes "  static" ++ (access_text a ++ named_type t name index)
member_line t underlying More = codes "  <...>\n"
member_line t underlying Endless = mark ++ codes "  error the list of members continues in itself\n"
member_line t underlying m = other_line t m

abbrev pub member_fault : Option Error → List ℕ
member_fault None = []
member_fault (Some e) = codes "  " ++ error_line e

-- the lines of members, and then that of the fault
abbrev pub members_text : Types → TypeIndex → Left MemberSays → List ℕ
members_text t underlying left = flat_map (member_line t underlying) left.items ++ member_fault left.fault
