-- The lines of inlined calls in `symbols`, by what stands at the offsets of their records.
use Rattle.std.specs.Prelude.{ℕ, List, ◌++◌, codes, drop}
use Rattle.pdb.specs.Fields.{number}
use Rattle.pdb_text.specs.Digits.{hex}
use Rattle.tool_fields.specs.FieldTexts.{field, label}
use Rattle.tool_types.specs.LineNames.{Names, call_end}
use Rattle.tool_fields.specs.ValueTexts.{bytes_text}

-- the line of a call in a scope up to the annotations
unfoldable pub call_head : ℕ → ℕ → ℕ → ℕ → List ℕ
call_head index parent end id =
    hex 8 index ++ codes " S_INLINESITE" ++ field (codes "parent") (hex 8 parent) ++ field (codes "end") (hex 8 end)
    ++ field (codes "inlinee") (hex 8 id) ++ field (codes "invocations") (codes "-") ++ label (codes "annotations")

-- the line behind its blanks
unfoldable pub call_text : Names → ℕ → List ℕ → List ℕ
call_text names index b = call_head index (number b 2 4) (number b 6 4) (number b 10 4) ++ (bytes_text (drop 14 b) ++ call_end names (number b 10 4))

-- the line behind its blanks of the end of a call
unfoldable pub call_end_line : ℕ → List ℕ
call_end_line index = hex 8 index ++ codes " S_INLINESITE_END\n"
