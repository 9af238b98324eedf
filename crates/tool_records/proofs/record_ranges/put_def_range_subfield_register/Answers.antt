use Rattle.tool_fields.proofs.Results.{joined, more}
use Rattle.tool_records.proofs.record_ranges.put_def_range_subfield_register.Goals as goal

pub returns : goal.returns
returns c =
    more c.put_ranged.result _ _ _ _ _ c.put_ranged.ensures
    (joined _ _ _ _ _ c.in_ok-put_number.ensures (joined _ _ _ _ _ c.in_ok-put_bool.ensures c.in_ok-put_register.ensures))
