-- The lines of local variables in `symbols`, by what stands at the offsets of their records.
use Rattle.std.specs.Prelude.{ℕ, List, ◌++◌, codes, Some}
use Rattle.pdb_symbols.specs.Flags.{local_flags_of}
use Rattle.pdb_text.specs.Digits.{hex}
use Rattle.tool_fields.specs.FieldTexts.{field, label}
use Rattle.tool_fields.specs.Flags.{local_flags}
use Rattle.tool_types.specs.LineNames.{Names, typed_end}
use Rattle.tool_fields.specs.Values.{behind_blank}

-- the line up to the flags
unfoldable pub local_head : ℕ → ℕ → List ℕ
local_head index type_index = hex 8 index ++ codes " S_LOCAL" ++ field (codes "type_index") (hex 8 type_index) ++ label (codes "flags")

-- the line behind its blanks
unfoldable pub local_text : Names → ℕ → ℕ → ℕ → List ℕ → List ℕ
local_text names index type_index flags name = local_head index type_index ++ (local_flags (local_flags_of flags) flags ++ (behind_blank name ++ typed_end names (Some (record { 0 = type_index }))))
