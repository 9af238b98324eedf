-- What records of types say, without where their bytes lie in memory.
use Rattle.std.specs.Prelude.{ℕ, ℤ, Bool, List, Option, Some, None, Result, Ok, Err, if◌then◌else◌}
use Rattle.pdb_base.specs.declared.error.Error.{Error}
use Rattle.pdb_base.specs.declared.index.TypeIndex.{TypeIndex}
use Rattle.pdb_base.specs.Fields.{cstring_at}
use Rattle.pdb_types.specs.declared.records.Array.{Array as ArraySays}
use Rattle.pdb_types.specs.declared.records.Bitfield.{Bitfield as BitfieldSays}
use Rattle.pdb_types.specs.declared.records.Modifier.{Modifier as ModifierSays}
use Rattle.pdb_types.specs.declared.records.MemberFunction.{MemberFunction as MemberFunctionSays}
use Rattle.pdb_types.specs.declared.records.Pointer.{Pointer as PointerSays}
use Rattle.pdb_types.specs.declared.records.Procedure.{Procedure as ProcedureSays}

-- the tag of a class, a union or an enumeration: what stands behind its name may be a unique name
pub record TagSays : Type 0 where
  pub is_forward : Bool
  pub has_unique_name : Bool
  pub fields : TypeIndex
  pub name : List ℕ
  pub behind : List ℕ

pub data TypeSays : Type 0 where
  Modifier : (s : ModifierSays) → TypeSays
  Pointer : (s : PointerSays) → TypeSays
  Array : (s : ArraySays) → TypeSays
  Bitfield : (s : BitfieldSays) → TypeSays
  Procedure : (s : ProcedureSays) → TypeSays
  MemberFunction : (s : MemberFunctionSays) → TypeSays
  ArgumentList : (arguments : List TypeIndex) → TypeSays
  Class : (size : ℤ) (tag : TagSays) → TypeSays
  Union : (size : ℤ) (tag : TagSays) → TypeSays
  Enumeration : (underlying : TypeIndex) (tag : TagSays) → TypeSays
  VirtualTableShape : (methods : ℕ) → TypeSays
  FieldList : TypeSays
  Alias : (name : List ℕ) → TypeSays

-- the name before a zero byte, where there is one
abbrev pub name_read : Result (List ℕ) Error → Option (List ℕ)
name_read (Ok name) = Some name
name_read (Err e) = None

-- a tag's unique name: the zero-ended name behind its name, where the property has the flag
abbrev pub unique_name_of : TagSays → Option (List ℕ)
unique_name_of t = if t.has_unique_name then name_read (cstring_at t.behind 0) else None
