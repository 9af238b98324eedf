use Rattle.tool_fields.specs.FieldTexts.{field}
use Rattle.tool_fields.proofs.Results.{more}
use Rattle.tool_records.proofs.record_code.put_invocations.Goals as goal

pub returns : goal.returns
unfolding field
returns c =
    more c.put_counts.result _ _ _ _ _ c.put_counts.ensures
    c.in_ok-put_label.ensures
