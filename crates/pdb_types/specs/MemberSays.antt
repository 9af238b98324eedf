-- What members of types say, without where their bytes lie in memory.
use Rattle.std.specs.Prelude.{ℕ, ℤ, ◌/◌, ◌%◌, ◌==◌, ◌||◌, Bool, List, Option}
use Rattle.std.specs.Int.{w8, cast_signed}
use Rattle.pdb_base.specs.declared.index.TypeIndex.{TypeIndex}
use Rattle.pdb_base.specs.declared.variant.Variant.{Variant}
use Rattle.pdb_base.specs.declared.variant.Variant.TheVariants.{U8, U16, U32, U64, I8, I16, I32, I64}
use Rattle.pdb_types.specs.declared.members.FieldAttributes.{FieldAttributes}

-- ---- attributes

-- who may use a member: bits 0 and 1
abbrev pub access_number : ℕ → ℕ
access_number a = a % 4

-- what a member function is: bits 2 to 4
abbrev pub method_number : ℕ → ℕ
method_number a = a / 4 % 8

-- a virtual function that no base class has
abbrev pub is_introduced : ℕ → Bool
is_introduced a = method_number a == 4 || method_number a == 6

-- ---- numbers

-- a number with its sign: behind 0x8000, which is LF_CHAR, it has one
abbrev pub with_sign : Variant → Variant
with_sign (U8 n) = I8 (cast_signed w8 n)
with_sign (U16 n) = U16 n
with_sign (U32 n) = U32 n
with_sign (U64 n) = U64 n
with_sign (I8 n) = I8 n
with_sign (I16 n) = I16 n
with_sign (I32 n) = I32 n
with_sign (I64 n) = I64 n

-- ---- members

pub data MemberSays : Type 0 where
  BaseClass : (attributes : FieldAttributes) (base_type : TypeIndex) (offset : Variant) → MemberSays
  VirtualBaseClass : (direct : Bool) (attributes : FieldAttributes) (base_type : TypeIndex) (base_pointer_offset base_offset : Variant) → MemberSays
  VirtualTablePointer : (table : TypeIndex) → MemberSays
  VirtualTableOffset : (table : TypeIndex) (offset : ℤ) → MemberSays
  FriendClass : (class_type : TypeIndex) → MemberSays
  FriendFunction : (function : TypeIndex) (name : List ℕ) → MemberSays
  Enumerate : (attributes : FieldAttributes) (value : Variant) (name : List ℕ) → MemberSays
  Member : (attributes : FieldAttributes) (field_type : TypeIndex) (offset : Variant) (name : List ℕ) → MemberSays
  StaticMember : (attributes : FieldAttributes) (field_type : TypeIndex) (name : List ℕ) → MemberSays
  Method : (count : ℕ) (method_list : TypeIndex) (name : List ℕ) → MemberSays
  Nested : (nested_type : TypeIndex) (name : List ℕ) → MemberSays
  OneMethod : (attributes : FieldAttributes) (method_type : TypeIndex) (vtable_offset : Option ℕ) (name : List ℕ) → MemberSays
  More : MemberSays
  Endless : MemberSays

-- an entry of a list: a member, or the list with which the list goes on
pub data EntrySays : Type 0 where
  Says : (m : MemberSays) → EntrySays
  GoesOn : (list : TypeIndex) → EntrySays
