use Rattle.std.proofs.Common.{rules}
use Rattle.std.proofs.lemmas.List.{with_items_is, places, drop-take}
use Rattle.pdb_file.proofs.whole.read_more.Goals as goal

pub returns-clause-told : goal.returns-clause-told
returns-clause-told g c =
    let same = with_items_is c.make_room.new.bytes c.read_at.new.bytes (search (rules, places)) in
    rw (c.truncate.ensures.items, same, ← c.len-at.ensures, drop-take c.len-at.result c.in-Ok.count c.read_at.new.bytes) c.in-Ok.ensures.told
