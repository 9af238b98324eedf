-- Members of types as rows.
use Rattle.std.specs.Prelude.{◌≡◌, ◌⊎◌, ℕ, ◌+◌, ◌/◌, ◌%◌, ℤ, Bool, if◌then◌else◌, List, [], ◌∷◌, ◌++◌, length, map, Option, Some, None, Result, Ok, Err}
use Rattle.std.specs.List.{flat_map}
use Rattle.std.specs.Option.{unwrap_or}
use Rattle.std.specs.Int.{w128, cast_unsigned}
use Rattle.pdb.specs.Error.{Error}
use Rattle.pdb.specs.Left.{Left}
use Rattle.pdb.specs.Refusal.{number_of}
use Rattle.pdb_items.specs.Items.{ItemEntry, item_with}
use Rattle.pdb_types.specs.declared.overloads.MethodListEntry.{MethodListEntry}
use Rattle.pdb_types.specs.Enumerators.{bit_position_in, enumerator_number}
use Rattle.pdb_types.specs.FullTypes.{says_of, tag_in}
use Rattle.pdb_types.specs.MemberLists.{members_of}
use Rattle.pdb_types.specs.MemberSays.{MemberSays}
use Rattle.pdb_types.specs.MemberSays.MemberSays.{BaseClass, VirtualBaseClass, VirtualTablePointer, VirtualTableOffset, FriendClass, FriendFunction, Enumerate, Member, StaticMember, Method, Nested, OneMethod, More, Endless}
use Rattle.pdb_types.specs.Overloads.{overloads_of}
use Rattle.pdb_types.specs.TypeRows.{value_of}
use Rattle.pdb_types.specs.TypeSays.{TypeSays, TagSays}
use Rattle.pdb_types.specs.TypeSays.TypeSays.{Enumeration}
use Rattle.pdb_c.specs.Rooms.{over}
use Rattle.pdb_c.specs.Boundary.{IsRefused, room_code}
use Rattle.pdb_c.specs.LineRows.{told}
use Rattle.pdb_c.specs.TypeRows.{full_type}
use Rattle.pdb_c.specs.declared.members.PdbMember.{PdbMember}

-- ---- rows

-- a row of a member, with the bytes of its name
pub record MemberRow : Type 0 where
  pub name : List ℕ
  pub value : ℕ
  pub value_high : ℕ
  pub entry : ℕ
  pub owner : ℕ
  pub type_index : ℕ
  pub attributes : ℕ
  pub form : ℕ
  pub refused : ℕ
  pub has_value : ℕ
  pub has_bit : ℕ
  pub bit : ℕ

abbrev pub seen : PdbMember → MemberRow
seen y = record {
  name = y.name.now;
  value = y.value;
  value_high = y.value_high;
  entry = y.entry;
  owner = y.owner;
  type_index = y.type_index;
  attributes = y.attributes;
  form = y.form;
  refused = y.refused;
  has_value = y.has_value;
  has_bit = y.has_bit;
  bit = y.bit;
}

-- the low and the high 64 bits of a number that has 128, in two's complement
abbrev pub low_half : ℕ → ℕ
low_half n = n % 0x10000000000000000

abbrev pub high_half : ℕ → ℕ
high_half n = n / 0x10000000000000000

abbrev pub in_bits : ℤ → ℕ
in_bits z = cast_unsigned w128 z

-- the row of a member of a form, which has the number 0 where it has no value
abbrev pub plain_row : ℕ → ℕ → List ℕ → ℕ → ℕ → Option ℕ → MemberRow
plain_row owner form name type_index attributes value = record {
  name = name;
  value = low_half (unwrap_or value 0);
  value_high = high_half (unwrap_or value 0);
  entry = 0;
  owner = owner;
  type_index = type_index;
  attributes = attributes;
  form = form;
  refused = 0;
  has_value = told value;
  has_bit = 0;
  bit = 0;
}

-- the same row with an entry of a table, with the first bit of a bit field, or with an error
abbrev pub with_entry : ℕ → MemberRow → MemberRow
with_entry n r = record { name = r.name; value = r.value; value_high = r.value_high; entry = low_half n; owner = r.owner; type_index = r.type_index; attributes = r.attributes; form = r.form; refused = r.refused; has_value = r.has_value; has_bit = r.has_bit; bit = r.bit }

abbrev pub with_bit : Option ℕ → MemberRow → MemberRow
with_bit p r = record { name = r.name; value = r.value; value_high = r.value_high; entry = r.entry; owner = r.owner; type_index = r.type_index; attributes = r.attributes; form = r.form; refused = r.refused; has_value = r.has_value; has_bit = told p; bit = unwrap_or p 0 }

abbrev pub with_error : ℕ → MemberRow → MemberRow
with_error n r = record { name = r.name; value = r.value; value_high = r.value_high; entry = r.entry; owner = r.owner; type_index = r.type_index; attributes = r.attributes; form = r.form; refused = n; has_value = r.has_value; has_bit = r.has_bit; bit = r.bit }

-- ---- members

-- a member function
abbrev pub method_row : ℕ → List ℕ → MethodListEntry → MemberRow
method_row owner name m = plain_row owner 11 name m.method_type.0 m.attributes.0 m.vtable_offset

-- the functions of one name, and behind them the name alone where their list has an error
abbrev pub unread_rows : ℕ → List ℕ → Option Error → List MemberRow
unread_rows owner name None = []
unread_rows owner name (Some e) = plain_row owner 12 name 0 0 None ∷ []

abbrev pub overload_rows : ℕ → List ℕ → Left MethodListEntry → List MemberRow
overload_rows owner name left = map (method_row owner name) left.items ++ unread_rows owner name left.fault

abbrev pub method_rows : ℕ → List ℕ → Result (Left MethodListEntry) Error → List MemberRow
method_rows owner name (Ok left) = overload_rows owner name left
method_rows owner name (Err e) = unread_rows owner name (Some e)

-- whether a virtual base class is that of the type itself
abbrev pub virtual_form : Bool → ℕ
virtual_form direct = if direct then 2 else 3

-- the rows of a member that has no number of its own
abbrev pub other_rows : List ItemEntry → ℕ → MemberSays → List MemberRow
other_rows types owner (VirtualTablePointer t) = plain_row owner 4 [] t.0 0 None ∷ []
other_rows types owner (FriendClass t) = plain_row owner 6 [] t.0 0 None ∷ []
other_rows types owner (FriendFunction t name) = plain_row owner 7 name t.0 0 None ∷ []
other_rows types owner (StaticMember a t name) = plain_row owner 10 name t.0 a.0 None ∷ []
other_rows types owner (Method count list name) = method_rows owner name (overloads_of types list.0)
other_rows types owner (Nested t name) = plain_row owner 13 name t.0 0 None ∷ []
other_rows types owner (OneMethod a t offset name) = plain_row owner 11 name t.0 a.0 offset ∷ []
other_rows types owner More = plain_row owner 14 [] 0 0 None ∷ []
other_rows types owner Endless = plain_row owner 15 [] 0 0 None ∷ []
other_rows types owner m = []

-- the rows of a member; enumerators are numbers of the underlying type
abbrev pub member_rows : List ItemEntry → ℕ → ℕ → MemberSays → List MemberRow
member_rows types owner u (BaseClass a t offset) = plain_row owner 1 [] t.0 a.0 (Some (in_bits (value_of offset))) ∷ []
member_rows types owner u (VirtualBaseClass direct a t offset entry) = with_entry (in_bits (value_of entry)) (plain_row owner (virtual_form direct) [] t.0 a.0 (Some (in_bits (value_of offset)))) ∷ []
member_rows types owner u (VirtualTableOffset t offset) = plain_row owner 5 [] t.0 0 (Some (in_bits offset)) ∷ []
member_rows types owner u (Enumerate a value name) = plain_row owner 8 name 0 a.0 (Some (in_bits (enumerator_number types u (value_of value)))) ∷ []
member_rows types owner u (Member a t offset name) = with_bit (bit_position_in (item_with types t.0)) (plain_row owner 9 name t.0 a.0 (Some (in_bits (value_of offset)))) ∷ []
member_rows types owner u m = other_rows types owner m

-- ---- the members of types

abbrev pub error_rows : ℕ → Option Error → List MemberRow
error_rows owner None = []
error_rows owner (Some e) = with_error (number_of e) (plain_row owner 0 [] 0 0 None) ∷ []

-- the rows of members, and behind them that of an error
abbrev pub rows_left : List ItemEntry → ℕ → ℕ → Left MemberSays → List MemberRow
rows_left types owner u left = flat_map (member_rows types owner u) left.items ++ error_rows owner left.fault

-- the type that the values of an enumeration have
abbrev pub underlying_of : Option TypeSays → ℕ
underlying_of (Some (Enumeration underlying tag)) = underlying.0
underlying_of says = 0

abbrev pub rows_by : List ItemEntry → ℕ → ℕ → Option TagSays → List MemberRow
rows_by types owner u None = []
rows_by types owner u (Some tag) = rows_left types owner u (members_of types tag.fields.0)

-- the rows of the members of a full definition
abbrev pub rows_of_full : List ItemEntry → ℕ → Option ℕ → List MemberRow
rows_of_full types owner None = []
rows_of_full types owner (Some i) = rows_by types owner (underlying_of (says_of types i)) (tag_in (says_of types i))

-- the rows of the type of an index
unfoldable pub rows_of_type : List ItemEntry → ℕ → ℕ → List MemberRow
rows_of_type types owner i = rows_of_full types owner (full_type types i)

-- the rows of types, the first with this number
abbrev pub rows_of_types : List ItemEntry → ℕ → List ℕ → List MemberRow
rows_of_types types owner [] = []
rows_of_types types owner (i ∷ is) = rows_of_type types owner i ++ rows_of_types types (owner + 1) is

-- what a call put: the rows, as far as its buffer reaches, and how many there are
pub record AreMembers (all : List MemberRow) (c : ℕ) (before after : List PdbMember) (count : ℕ) : Type 0 where
  pub rows : map seen after ≡ over all (map seen before)
  pub size : count ≡ length all
  pub code : c ≡ room_code (length before) (length all)

-- what a call put of the members of types of these indices, where the types were read: nothing after an error, or where it is out of memory
abbrev pub MembersTold : List ℕ → ℕ → List PdbMember → List PdbMember → ℕ → Result (List ItemEntry) Error → Type 0
MembersTold indices c before after count (Ok types) = AreMembers (rows_of_types types 0 indices) c before after count ⊎ ((c ≡ 22) × (after ≡ before) × (count ≡ 0))
MembersTold indices c before after count (Err e) = IsRefused c e × (after ≡ before) × (count ≡ 0)
