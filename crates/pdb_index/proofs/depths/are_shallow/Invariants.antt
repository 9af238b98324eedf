use Rattle.std.proofs.Common.{◌≡◌, length}
use Rattle.pdb_index.specs.WellMade.{AreDepths}
use Rattle.pdb_index.proofs.depths.are_shallow.Given as goal

-- the depths of the nodes so far are kept
abbrev pub invariant-loop-number : goal.invariant-loop-number
invariant-loop-number l = record {
  count : length l.depths.items ≡ l.number;
  kept : AreDepths l.index.bytes.now l.index.layout l.depths.items;
}
