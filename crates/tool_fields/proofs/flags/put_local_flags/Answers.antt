use Rattle.tool_fields.specs.FieldTexts.{field}
use Rattle.tool_fields.specs.Flags.{local_flags}
use Rattle.tool_fields.proofs.Results.{more}
use Rattle.tool_fields.proofs.flags.put_local_flags.Goals as goal

pub returns : goal.returns
unfolding field local_flags
returns c = more c.put_flags.result _ _ _ _ _ c.put_flags.ensures c.in_ok-put_label.ensures
