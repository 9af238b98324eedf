-- What a type record says.
use Rattle.std.specs.Prelude.{ℕ, List, Option, Some, None, Result, Ok, map}
use Rattle.pdb_base.specs.declared.error.Error.{Error}
use Rattle.pdb_base.specs.declared.index.TypeIndex.{TypeIndex}
use Rattle.pdb_base.specs.Text.{name_bytes}
use Rattle.pdb_items.specs.IdForms.{numbers_in, type_index_of}
use Rattle.pdb_items.specs.Ids.{kind_at}
use Rattle.pdb_types.specs.declared.records.ArgumentList.{ArgumentList}
use Rattle.pdb_types.specs.declared.tags.Tag.{Tag}
use Rattle.pdb_types.specs.declared.type_data.TypeData.{TypeData}
use Rattle.pdb_types.specs.declared.type_data.TypeData.TheVariants as rust
use Rattle.pdb_types.specs.TypeSays.{TypeSays, TagSays}
use Rattle.pdb_types.specs.TypeSays.TypeSays.{Modifier, Pointer, Array, Bitfield, Procedure, MemberFunction, ArgumentList as Arguments, Class, Union, Enumeration, VirtualTableShape, FieldList, Alias}
use Rattle.pdb_types.specs.TypeRows.{TypeForm, type_form_of, IsOfTypeForm, read_of_type_form}

abbrev pub HasTypeForm : Option TypeForm → List ℕ → TypeSays → Type 0
HasTypeForm None b d = ⊥
HasTypeForm (Some f) b d = IsOfTypeForm f b d

-- a type record of bytes b says d
abbrev pub IsType : List ℕ → TypeSays → Type 0
IsType b d = HasTypeForm (type_form_of (kind_at b)) b d

abbrev pub type_fields_at : Option TypeForm → List ℕ → Result (Option TypeSays) Error
type_fields_at None b = Ok None
type_fields_at (Some f) b = read_of_type_form f b

-- what is read of a type record: nothing where its kind has no form; or the error
abbrev pub type_at : List ℕ → Result (Option TypeSays) Error
type_at b = type_fields_at (type_form_of (kind_at b)) b

-- ---- what the structs show

-- the types of the arguments
abbrev pub arguments_of : ArgumentList → List TypeIndex
arguments_of l = map type_index_of (numbers_in l.arguments.now)

abbrev pub shown_tag : Tag → TagSays
shown_tag t = record {
  is_forward = t.is_forward;
  has_unique_name = t.has_unique_name;
  fields = t.fields;
  name = name_bytes t.name;
  behind = t.behind.now;
}

abbrev pub shown_type : TypeData → TypeSays
shown_type (rust.Modifier s) = Modifier s
shown_type (rust.Pointer s) = Pointer s
shown_type (rust.Array s) = Array s
shown_type (rust.Bitfield s) = Bitfield s
shown_type (rust.Procedure s) = Procedure s
shown_type (rust.MemberFunction s) = MemberFunction s
shown_type (rust.ArgumentList l) = Arguments (arguments_of l)
shown_type (rust.Class c) = Class c.size (shown_tag c.tag)
shown_type (rust.Union u) = Union u.size (shown_tag u.tag)
shown_type (rust.Enumeration e) = Enumeration e.underlying (shown_tag e.tag)
shown_type (rust.VirtualTableShape s) = VirtualTableShape s.methods
shown_type rust.FieldList = FieldList
shown_type (rust.Alias a) = Alias (name_bytes a.name)
