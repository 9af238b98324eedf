use Rattle.tool_fields.proofs.Results.{more}
use Rattle.tool_fields.proofs.fields_code.put_label_symbol.Goals as goal

pub returns : goal.returns
returns c =
    more c.put_procedure_flags.result _ _ _ _ _ c.put_procedure_flags.ensures c.in_ok-put_place_field.ensures
