use Rattle.std.proofs.Common.{◌≡◌, ◌^◌, ◌<◌, ◌+◌, length}
use Rattle.pdb_base.proofs.iterator.FallibleIterator.count.Given as goal

-- the items so far and those left are all of them; once one came, there are few
abbrev pub invariant-loop-self : goal.invariant-loop-self
invariant-loop-self g l =
    let left = g.Self.FallibleIterator.left in
    record {
      counted : l.n + length (left l.self).items ≡ length (left l.fn.self).items;
      fault : (left l.fn.self).fault ≡ (left l.self).fault;
      few : 0 < l.n → length (left l.fn.self).items < 2 ^ 64;
    }

abbrev pub decreases-loop-self : goal.decreases-loop-self
decreases-loop-self g l = length (g.Self.FallibleIterator.left l.self).items
