use Rattle.tool_records.specs.RecordTexts.{frame_sizes_fields}
use Rattle.tool_fields.proofs.Results.{joined, more}
use Rattle.tool_records.proofs.record_code.put_frame_sizes.Goals as goal

pub returns : goal.returns
unfolding frame_sizes_fields
returns c =
    more c.put_number-4.result _ _ _ _ _ c.put_number-4.ensures
    (joined _ _ _ _ _ c.in_ok-put_number-3.ensures (joined _ _ _ _ _ c.in_ok-put_number-2.ensures c.in_ok-put_number.ensures))
