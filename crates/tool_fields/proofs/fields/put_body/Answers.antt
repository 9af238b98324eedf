use Rattle.tool_fields.specs.FieldTexts.{body_fields}
use Rattle.tool_fields.proofs.Results.{joined, more}
use Rattle.tool_fields.proofs.fields.put_body.Goals as goal

pub returns : goal.returns
unfolding body_fields
returns c =
    more c.put_number-3.result _ _ _ _ _ c.put_number-3.ensures
    (joined _ _ _ _ _ c.in_ok-put_number-2.ensures c.in_ok-put_number.ensures)
