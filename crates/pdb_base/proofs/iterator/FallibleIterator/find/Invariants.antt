use Rattle.std.proofs.Common.{◌≡◌, ◌++◌, List, map, length}
use Rattle.pdb_base.specs.Left.{RejectsAll}
use Rattle.pdb_base.proofs.iterator.FallibleIterator.find.Given as goal

-- the items that p rejected, and those left, are all of them
abbrev pub invariant-loop-p : goal.invariant-loop-p
invariant-loop-p g l =
    let it = g.Self.FallibleIterator in
    goal.P-IsAlwaysCallable g l.p
    × ((xs : List g.row.Self-Item.Denot)
    × ((it.left l.fn.self).items ≡ map it.shown xs ++ (it.left l.self).items)
    × ((it.left l.fn.self).fault ≡ (it.left l.self).fault)
    × RejectsAll it.shown g.P.FnMut l.fn.p xs l.p)

abbrev pub decreases-loop-p : goal.decreases-loop-p
decreases-loop-p g l = length (g.Self.FallibleIterator.left l.self).items
