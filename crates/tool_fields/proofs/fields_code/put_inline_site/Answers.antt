use Rattle.tool_fields.proofs.Results.{joined, more}
use Rattle.tool_fields.proofs.fields_code.put_inline_site.Goals as goal

pub returns : goal.returns
returns c =
    more c.put_annotations.result _ _ _ _ _ c.put_annotations.ensures
    (joined _ _ _ _ _ c.in_ok-put_optional_number.ensures c.in_ok-put_site.ensures)
