use Rattle.std.proofs.Common.{◌≡◌, ◌++◌, map, length}
use Rattle.pdb.specs.DbiViews.{contributions_left, contributions_steps}
use Rattle.pdb_places.specs.Pieces.{range_parts, code_parts}
use Rattle.pdb_places.specs.ModulePlaces.{module_of}
use Rattle.pdb_places.specs.ModuleTable.{pieces_from}
use Rattle.pdb_places.proofs.module_places.rows_of.Given as goal

-- the rows so far, and those of the contributions that are left, are all
abbrev pub invariant-loop-contribution : goal.invariant-loop-contribution
invariant-loop-contribution l = record {
  ranges : map range_parts l.rows.ranges.items ++ map code_parts (pieces_from (length l.rows.ranges.items) (contributions_left l.contributions).items) ≡ map code_parts (pieces_from 0 (contributions_left l.fn.contributions).items);
  modules : l.rows.modules.items ++ map module_of (contributions_left l.contributions).items ≡ map module_of (contributions_left l.fn.contributions).items;
  counted : contributions_steps l.contributions ≡ length l.rows.ranges.items;
}

abbrev pub decreases-loop-contribution : goal.decreases-loop-contribution
decreases-loop-contribution l = length (contributions_left l.contributions).items
