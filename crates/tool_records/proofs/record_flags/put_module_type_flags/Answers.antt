use Rattle.tool_fields.specs.FieldTexts.{field}
use Rattle.tool_records.specs.RecordFlagTexts.{module_type_flags}
use Rattle.tool_fields.proofs.Results.{more}
use Rattle.tool_records.proofs.record_flags.put_module_type_flags.Goals as goal

pub returns : goal.returns
unfolding field module_type_flags
returns c = more c.put_flags.result _ _ _ _ _ c.put_flags.ensures c.in_ok-put_label.ensures
