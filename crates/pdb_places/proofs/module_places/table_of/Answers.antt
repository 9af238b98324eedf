use Rattle.pdb_places.specs.ModuleTable.{pieces_from}
use Rattle.pdb_places.proofs.Pieces.{kept_of}
use Rattle.pdb_places.proofs.module_places.table_of.Goals as goal

pub returns-clause-table : goal.returns-clause-table
returns-clause-table c =
    let rows = c.in_ok-rows in
    let ranges = c.in_ok-ranges.ensures in
    record {
      ranges = kept_of (pieces_from 0 _) c.as_slice.result.now rows.rows.ranges.items c.in_ok-ranges.ranges rows.ensures.ranges c.as_slice.ensures.value ranges.same ranges.apart ranges.few;
      modules = rows.ensures.modules;
    }
