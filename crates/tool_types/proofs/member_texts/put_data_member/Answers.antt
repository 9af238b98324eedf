use Rattle.tool_types.specs.MemberTexts.{data_line}
use Rattle.tool_fields.proofs.Results.{joined, more}
use Rattle.tool_types.proofs.member_texts.put_data_member.Goals as goal

pub returns : goal.returns
unfolding data_line
returns c =
    let bit = c.in_ok-put_bit.ensures in
    more c.put_named_type.result _ _ _ _ _ c.put_named_type.ensures
    (joined _ _ _ _ _ c.in_ok-put_access.ensures (joined _ _ _ _ _ (rw c.bit_position.ensures at bit) c.in_ok-put_word_and_number.ensures))
