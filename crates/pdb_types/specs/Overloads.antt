-- Member functions of one name, which stand one after another in a list of their own.
use Rattle.std.specs.Prelude.{ℕ, ◌+◌, ◌==◌, Bool, if◌then◌else◌, List, Option, Some, None, Result, Ok, Err}
use Rattle.pdb_base.specs.declared.error.Error.{Error}
use Rattle.pdb_base.specs.declared.error.Error.TheVariants.{UnexpectedEof}
use Rattle.pdb_base.specs.Refusal.{◌>>=◌}
use Rattle.pdb_base.specs.Fields.{number, number_at, bytes_at}
use Rattle.pdb_base.specs.Left.{Left}
use Rattle.pdb_base.specs.Tiling.{Row, listing}
use Rattle.pdb_base.specs.Reading.{read_row}
use Rattle.pdb_items.specs.IdForms.{type_index_of}
use Rattle.pdb_items.specs.Items.{ItemEntry, item_with}
use Rattle.pdb_items.specs.Ids.{kind_at}
use Rattle.pdb_types.specs.declared.overloads.MethodListEntry.{MethodListEntry}
use Rattle.pdb_types.specs.MemberSays.{is_introduced}
use Rattle.pdb_types.specs.MemberRows.{attributes_of}

-- the offset in the table of virtual functions, where the function is introduced
abbrev pub table_offset_at : Bool → List ℕ → ℕ → Result (Option ℕ) Error
table_offset_at introduced b p = if introduced then number_at b p 4 >>= (λ n. Ok (Some n)) else Ok None

abbrev pub overload_of : List ℕ → Option ℕ → MethodListEntry
overload_of fields offset = record { attributes = attributes_of (number fields 0 2); method_type = type_index_of (number fields 4 4); vtable_offset = offset }

-- the function at p: u16 attributes, two bytes, u32 type, and u32 offset where it is introduced
unfoldable pub overload_at : List ℕ → ℕ → Result MethodListEntry Error
overload_at b p = do
  fields ← bytes_at b p 8
  offset ← table_offset_at (is_introduced (number fields 0 2)) b (p + 8)
  Ok (overload_of fields offset)

abbrev pub overload_length : ℕ → MethodListEntry → ℕ
overload_length p x = if is_introduced x.attributes.0 then 12 else 8

abbrev pub overloads : Row MethodListEntry
overloads = read_row overload_at overload_length

-- the functions of an item, which is a list of them: LF_METHODLIST
abbrev pub overloads_in : Option ItemEntry → Result (Left MethodListEntry) Error
overloads_in None = Err UnexpectedEof
overloads_in (Some x) = if kind_at x.bytes == 0x1206 then Ok (listing overloads x.bytes 2) else Err UnexpectedEof

-- the functions of the list of an index
unfoldable pub overloads_of : List ItemEntry → ℕ → Result (Left MethodListEntry) Error
overloads_of types i = overloads_in (item_with types i)
