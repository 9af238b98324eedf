use Rattle.std.proofs.Common.{take}
use Rattle.std.specs.List.{All}
use Rattle.pdb.specs.Source.{Continues}
use Rattle.pdb_resolve.specs.KeptCrossings.{AreExportsOf, IsRead}
use Rattle.pdb_resolve.proofs.exporters.read_all_exports.Given as goal

-- the exports of the modules so far are read
abbrev pub invariant-loop-number : goal.invariant-loop-number
invariant-loop-number g l = record {
  continues : Continues l.fn.pdb l.pdb;
  kept : AreExportsOf l.pdb l.exports;
  read : All (IsRead l.exports) (take l.number-index l.numbers);
}
