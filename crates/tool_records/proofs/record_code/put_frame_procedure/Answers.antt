use Rattle.tool_fields.proofs.Results.{joined, more}
use Rattle.tool_records.proofs.record_code.put_frame_procedure.Goals as goal

pub returns : goal.returns
returns c =
    more c.put_bases.result _ _ _ _ _ c.put_bases.ensures
    (joined _ _ _ _ _ c.in_ok-put_frame_flags.ensures (joined _ _ _ _ _ c.in_ok-put_place_field.ensures c.in_ok-put_frame_sizes.ensures))
