use Rattle.tool_fields.proofs.Results.{joined, more}
use Rattle.tool_records.proofs.record_image.put_coff_group.Goals as goal

pub returns : goal.returns
returns c =
    let name = c.put_behind_blank.ensures in
    more c.put_behind_blank.result _ _ _ _ _ (rw c.as_bytes.ensures at name)
    (joined _ _ _ _ _ c.in_ok-put_place_field.ensures (joined _ _ _ _ _ c.in_ok-put_index.ensures c.in_ok-put_number.ensures))
