use Rattle.pdb_c.proofs.MemberRowSteps.{members_put}
use Rattle.pdb_c.proofs.members.fill.Goals as goal

pub returns : goal.returns
returns c = members_put c.args.rows.now c.args.records.now c.put_rows.new.room c.room_code.result c.put_rows.ensures c.room_code.ensures
