use Rattle.tool_records.specs.RecordTexts.{managed_fields}
use Rattle.tool_fields.proofs.Results.{joined, more}
use Rattle.tool_records.proofs.record_managed.put_managed.Goals as goal

pub returns : goal.returns
unfolding managed_fields
returns c =
    more c.put_named_register.result _ _ _ _ _ c.put_named_register.ensures
    (joined _ _ _ _ _ c.in_ok-put_procedure_flags.ensures (joined _ _ _ _ _ c.in_ok-put_place_field.ensures c.in_ok-put_index.ensures))
