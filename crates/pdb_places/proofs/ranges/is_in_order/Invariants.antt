use Rattle.pdb_places.proofs.Orders.{InOrderTo}
use Rattle.pdb_places.proofs.ranges.is_in_order.Given as goal

abbrev pub invariant-loop-i : goal.invariant-loop-i
invariant-loop-i l = InOrderTo l.ranges l.i
