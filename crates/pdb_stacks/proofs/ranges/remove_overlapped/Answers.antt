use Rattle.std.proofs.Common.{sym}
use Rattle.pdb_stacks.proofs.RangeLists.{all_stay}
use Rattle.pdb_stacks.proofs.ranges.remove_overlapped.Goals as goal

pub returns-else-overlaps_any : goal.returns-else-overlaps_any
returns-else-overlaps_any c =
    let told = rw c.deref.ensures.value at c.if-overlaps_any.ensures in
    sym (all_stay c.args.new c.args.ranges.now.items (sym told))
