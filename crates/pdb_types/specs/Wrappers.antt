-- Types whose names are made of the names of other types.
use Rattle.std.specs.Prelude.{ℕ, ◌==◌, ◌||◌, Bool, Option, Some, None}
use Rattle.pdb_types.specs.TypeSays.{TypeSays}
use Rattle.pdb_types.specs.TypeSays.TypeSays.{Modifier, Pointer, Array, Bitfield, Procedure, MemberFunction, ArgumentList, Class, Union, Enumeration, VirtualTableShape, FieldList, Alias}

-- a kind of types that stand around another type
abbrev pub is_wrapper : ℕ → Bool
is_wrapper kind = kind == 0x1001 || kind == 0x1002 || kind == 0x1503 || kind == 0x1205 || kind == 0x1008 || kind == 0x1009

-- what such a type says; of others nothing, since they have no shape, and nothing behind a declared name
abbrev pub wrapped : Option TypeSays → Option TypeSays
wrapped None = None
wrapped (Some (Modifier s)) = Some (Modifier s)
wrapped (Some (Pointer s)) = Some (Pointer s)
wrapped (Some (Array s)) = Some (Array s)
wrapped (Some (Bitfield s)) = Some (Bitfield s)
wrapped (Some (Procedure s)) = Some (Procedure s)
wrapped (Some (MemberFunction s)) = Some (MemberFunction s)
wrapped (Some (ArgumentList js)) = None
wrapped (Some (Class size tag)) = None
wrapped (Some (Union size tag)) = None
wrapped (Some (Enumeration underlying tag)) = None
wrapped (Some (VirtualTableShape methods)) = None
wrapped (Some FieldList) = None
wrapped (Some (Alias name)) = None
