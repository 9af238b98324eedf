use Rattle.tool_fields.proofs.Results.{joined, more}
use Rattle.tool_fields.proofs.fields_code.put_separated_code.Goals as goal

pub returns : goal.returns
returns c =
    more c.put_place_field-2.result _ _ _ _ _ c.put_place_field-2.ensures
    (joined _ _ _ _ _ c.in_ok-put_place_field.ensures (joined _ _ _ _ _ c.in_ok-put_separated_code_flags.ensures c.in_ok-put_span.ensures))
