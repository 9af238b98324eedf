use Rattle.std.proofs.Common.{◌≡◌, ◌++◌, map, length}
use Rattle.pdb_base.proofs.iterator.FallibleIterator.collect.Given as goal

-- the items so far and those left are all of them
abbrev pub invariant-loop-items : goal.invariant-loop-items
invariant-loop-items g l =
    let it = g.Self.FallibleIterator in
    record {
      collected : (it.left l.fn.self).items ≡ map it.shown l.items.items ++ (it.left l.self).items;
      fault : (it.left l.fn.self).fault ≡ (it.left l.self).fault;
    }

abbrev pub decreases-loop-items : goal.decreases-loop-items
decreases-loop-items g l = length (g.Self.FallibleIterator.left l.self).items
