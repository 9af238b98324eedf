use Rattle.std.proofs.Common.{ap, ◌∙◌, map}
use Rattle.pdb.specs.Left.{Left}
use Rattle.pdb.specs.SymbolList.{Entry}
use Rattle.pdb_places.specs.PublicNames.{publics_among, publics_in}
use Rattle.pdb_places.specs.PublicTable.{public_parts}
use Rattle.pdb_places.proofs.PublicSymbols.{publics_rise}
use Rattle.pdb_places.proofs.public_table.table_of.Goals as goal

pub returns-clause-table : goal.returns-clause-table
unfolding publics_in
returns-clause-table c = record {
  listed = c.in_ok-sorted.sorted.items;
  rows = c.in_ok-sorted.ensures.rows ∙ ap (λ (l : Left Entry). map public_parts (publics_among l.items)) c.iter.ensures.left;
  all = c.in_ok-sort.ensures.all;
  rises = c.in_ok-sort.ensures.rises;
  rising = publics_rise c.args.symbols.now;
}
