-- The types of functions, by the records of their ids.
use Rattle.std.specs.Prelude.{ℕ, ◌+◌, ◌==◌, ◌||◌, nat_le, if◌then◌else◌, List, length, Option, Some, None}
use Rattle.pdb_base.specs.declared.index.TypeIndex.{TypeIndex}
use Rattle.pdb_base.specs.Fields.{number}
use Rattle.pdb_items.specs.IdForms.{type_index_of}
use Rattle.pdb_items.specs.Ids.{kind_at}

-- the index of four bytes at a place, where they are there
abbrev pub index_at : List ℕ → ℕ → Option TypeIndex
index_at b p = if nat_le (p + 4) (length b) then Some (type_index_of (number b p 4)) else None

-- the type of the function whose id has a record of these bytes: LF_FUNC_ID and LF_MFUNC_ID have it at 6
abbrev pub function_type_in : List ℕ → Option TypeIndex
function_type_in b = if kind_at b == 0x1601 || kind_at b == 0x1602 then index_at b 6 else None
