-- The table of the records of types: which kind has which form, how its records are laid out, and what they say.
use Rattle.std.specs.Prelude.{ℕ, ℤ, pos, ◌≡◌, ◌==◌, ◌||◌, List, map, Option, Some, None, Result, Ok, Err, if◌then◌else◌}
use Rattle.std.specs.Int.{w8, cast_signed}
use Rattle.pdb_base.specs.declared.error.Error.{Error}
use Rattle.pdb_base.specs.declared.error.Error.TheVariants.{UnexpectedEof}
use Rattle.pdb_base.specs.declared.index.TypeIndex.{TypeIndex}
use Rattle.pdb_base.specs.declared.variant.Variant.{Variant}
use Rattle.pdb_base.specs.declared.variant.Variant.TheVariants.{U8, U16, U32, U64, I8, I16, I32, I64}
use Rattle.pdb_base.specs.Fields.{number as number_in, number_at, variant_at, variant_width}
use Rattle.pdb_base.specs.Places.{IsNumber, IsVariant}
use Rattle.pdb_base.specs.Refusal.{◌>>=◌}
use Rattle.pdb_base.specs.Layouts.{Part, ◌▷◌, behind, together, number, number_as, slice, cstring, rest, nothing}
use Rattle.pdb_items.specs.IdForms.{counted_numbers, numbers_in, type_index_of}
use Rattle.pdb_types.specs.declared.pointer.PointerMode.{PointerMode}
use Rattle.pdb_types.specs.declared.pointer.PointerMode.TheVariants as modes
use Rattle.pdb_types.specs.TypeFlags.{has, mode_number, modifier_qualifiers}
use Rattle.pdb_types.specs.TypeSays.{TypeSays, TagSays}
use Rattle.pdb_types.specs.TypeSays.TypeSays.{Modifier, Pointer, Array, Bitfield, Procedure, MemberFunction, ArgumentList, Class, Union, Enumeration, VirtualTableShape, FieldList, Alias}

-- ---- parts

-- the number of a numeric leaf; behind 0x8000, which is LF_CHAR, it has a sign
abbrev pub value_of : Variant → ℤ
value_of (U8 n) = cast_signed w8 n
value_of (U16 n) = pos n
value_of (U32 n) = pos n
value_of (U64 n) = pos n
value_of (I8 n) = n
value_of (I16 n) = n
value_of (I32 n) = n
value_of (I64 n) = n

abbrev pub numeric : Part ℤ
numeric = record {
  at = λ kind b i. variant_at b i >>= (λ v. Ok (value_of v));
  Stands = λ kind b i n. (v : Variant) × IsVariant b i v × (n ≡ value_of v);
  width = λ kind b i n. variant_width b i;
}

-- a type's index
abbrev pub type_number : Part TypeIndex
type_number = number_as 4 type_index_of

-- what a pointer of a mode is, by the mode's number; a pointer to a member has its class behind the attributes, and a mode that isn't listed is as a field that isn't there
abbrev pub mode_at : ℕ → List ℕ → ℕ → Result PointerMode Error
mode_at m b i =
    if m == 0 then Ok modes.Pointer
    else if m == 1 then Ok modes.LvalueReference
    else if m == 2 then number_at b i 4 >>= (λ n. Ok (modes.DataMember (type_index_of n)))
    else if m == 3 then number_at b i 4 >>= (λ n. Ok (modes.MemberFunction (type_index_of n)))
    else if m == 4 then Ok modes.RvalueReference
    else Err UnexpectedEof

abbrev pub IsMode : ℕ → List ℕ → ℕ → PointerMode → Type 0
IsMode m b i modes.Pointer = m ≡ 0
IsMode m b i modes.LvalueReference = m ≡ 1
IsMode m b i (modes.DataMember owner) = (m ≡ 2) × IsNumber b i 4 owner.0
IsMode m b i (modes.MemberFunction owner) = (m ≡ 3) × IsNumber b i 4 owner.0
IsMode m b i modes.RvalueReference = m ≡ 4

abbrev pub mode_width : ℕ → ℕ
mode_width m = if m == 2 then 4 else if m == 3 then 4 else 0

abbrev pub mode_part : ℕ → Part PointerMode
mode_part m = record {
  at = λ kind b i. mode_at m b i;
  Stands = λ kind b i x. IsMode m b i x;
  width = λ kind b i x. mode_width m;
}

-- a pointer's attributes, and its mode
abbrev pub attributes_and_mode : Part (ℕ × PointerMode)
attributes_and_mode = together (behind (number 4) (λ a. mode_part (mode_number a)))

-- behind the types of a function: the calling convention, attributes and a count; the list of arguments
abbrev pub function_tail : Part (List ℕ × TypeIndex)
function_tail = together (slice 4 ▷ type_number)

-- what is returned, a class, and the type of `this`
abbrev pub method_head : Part (TypeIndex × (TypeIndex × TypeIndex))
method_head = together (type_number ▷ type_number ▷ type_number)

-- so many bytes, and a size
abbrev pub sized : ℕ → Part (List ℕ × ℤ)
sized n = together (slice n ▷ numeric)

-- a name, and the bytes behind it
abbrev pub name_and_rest : Part (List ℕ × List ℕ)
name_and_rest = together (cstring ▷ rest)

-- the tag of a record, by the bytes between its kind and its name: u16 count of members, u16 property; the list of members is the number of four bytes at a place
abbrev pub tag_of : List ℕ → ℕ → List ℕ → List ℕ → TagSays
tag_of before place name after = record {
  is_forward = has (number_in before 2 2) 0x80;
  has_unique_name = has (number_in before 2 2) 0x200;
  fields = type_index_of (number_in before place 4);
  name = name;
  behind = after;
}

-- ---- the table

pub data TypeForm : Type 0 where
  ModifierForm : TypeForm
  PointerForm : TypeForm
  ArrayForm : TypeForm
  BitfieldForm : TypeForm
  ProcedureForm : TypeForm
  MemberFunctionForm : TypeForm
  ArgumentListForm : TypeForm
  ClassForm : TypeForm
  UnionForm : TypeForm
  EnumerationForm : TypeForm
  VirtualTableShapeForm : TypeForm
  FieldListForm : TypeForm
  AliasForm : TypeForm

abbrev pub type_form_of : ℕ → Option TypeForm
type_form_of kind =
    if kind == 0x1001 then Some ModifierForm
    else if kind == 0x1002 then Some PointerForm
    else if kind == 0x1503 then Some ArrayForm
    else if kind == 0x1205 then Some BitfieldForm
    else if kind == 0x1008 then Some ProcedureForm
    else if kind == 0x1009 then Some MemberFunctionForm
    else if kind == 0x1201 then Some ArgumentListForm
    else if kind == 0x1504 || kind == 0x1505 || kind == 0x1519 then Some ClassForm
    else if kind == 0x1506 then Some UnionForm
    else if kind == 0x1507 then Some EnumerationForm
    else if kind == 0x000a then Some VirtualTableShapeForm
    else if kind == 0x1203 then Some FieldListForm
    else if kind == 0x150a then Some AliasForm
    else None

-- a form: how its records are laid out behind the kind, and what their parts say
pub record LaidType : Type 1 where
  pub Parts : Type 0
  pub layout : Part Parts
  pub says : Parts → TypeSays

abbrev lay : {A : Type 0} → Part A → (A → TypeSays) → LaidType
lay {A} p f = record { Parts = A; layout = p; says = f }

abbrev pub laid_type : TypeForm → LaidType
laid_type ModifierForm = lay (type_number ▷ number 2)
    (λ (underlying, bits). Modifier (record { underlying = underlying; qualifiers = modifier_qualifiers bits }))
laid_type PointerForm = lay (type_number ▷ attributes_and_mode)
    (λ (referent, (attributes, mode)). Pointer (record { referent = referent; attributes = record { 0 = attributes }; mode = mode }))
laid_type ArrayForm = lay (type_number ▷ slice 4 ▷ numeric)
    (λ (element, (index, size)). Array (record { element = element; size = size }))
laid_type BitfieldForm = lay (type_number ▷ number 1)
    (λ (underlying, len). Bitfield (record { underlying = underlying; len = len }))
laid_type ProcedureForm = lay (type_number ▷ function_tail)
    (λ (returned, (call, arguments)). Procedure (record { return_type = returned; argument_list = arguments }))
laid_type MemberFunctionForm = lay (method_head ▷ function_tail)
    (λ ((returned, (owner, this)), (call, arguments)). MemberFunction (record { return_type = returned; class_type = owner; this_type = this; argument_list = arguments }))
laid_type ArgumentListForm = lay (counted_numbers 4)
    (λ (count, bytes). ArgumentList (map type_index_of (numbers_in bytes)))
-- before the name stand: of a class u16 count, u16 property, u32 members, derived and shape, and its size; of a union u16 count, u16 property, u32 members, and its size; of an enumeration u16 count, u16 property, u32 underlying and members
laid_type ClassForm = lay (sized 16 ▷ name_and_rest)
    (λ ((before, size), (name, after)). Class size (tag_of before 4 name after))
laid_type UnionForm = lay (sized 8 ▷ name_and_rest)
    (λ ((before, size), (name, after)). Union size (tag_of before 4 name after))
laid_type EnumerationForm = lay (slice 12 ▷ name_and_rest)
    (λ (before, (name, after)). Enumeration (type_index_of (number_in before 4 4)) (tag_of before 8 name after))
laid_type VirtualTableShapeForm = lay (number 2) (λ methods. VirtualTableShape methods)
laid_type FieldListForm = lay nothing (λ _. FieldList)
laid_type AliasForm = lay (slice 4 ▷ cstring) (λ (underlying, name). Alias name)

-- a record of a form, of bytes b, says d
abbrev pub IsOfTypeForm : TypeForm → List ℕ → TypeSays → Type 0
IsOfTypeForm f b d = (s : (laid_type f).Parts) × (laid_type f).layout.Stands 0 b 2 s × (d ≡ (laid_type f).says s)

-- what is read of it, or the error
unfoldable pub read_of_type_form : TypeForm → List ℕ → Result (Option TypeSays) Error
read_of_type_form f b = (laid_type f).layout.at 0 b 2 >>= (λ s. Ok (Some ((laid_type f).says s)))
