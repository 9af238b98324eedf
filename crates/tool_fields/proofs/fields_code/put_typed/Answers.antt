use Rattle.tool_fields.specs.FieldTexts.{typed_fields}
use Rattle.tool_fields.proofs.Results.{joined, more}
use Rattle.tool_fields.proofs.fields_code.put_typed.Goals as goal

pub returns : goal.returns
unfolding typed_fields
returns c =
    more c.put_procedure_flags.result _ _ _ _ _ c.put_procedure_flags.ensures
    (joined _ _ _ _ _ c.in_ok-put_place_field.ensures c.in_ok-put_type.ensures)
