use Rattle.pdb.specs.Views.{symbol_of, symbols_left}
use Rattle.pdb_places.proofs.PublicCount.{one_more_public}
use Rattle.pdb_places.proofs.public_table.rows_of.Goals as goal

pub loop-symbol-preserved : goal.loop-symbol-preserved
loop-symbol-preserved c =
    let follows = (rw c.in-Ok-Some.field-0-is at c.in-Ok-Some.ensures.yields) in
    one_more_public (symbol_of c.in-Ok-Some.symbol) (symbols_left c.loop-symbol.symbols).items (symbols_left c.next.new.self).items c.loop-symbol.rows.items c.add.new.rows.items _ follows.0 c.in_ok-add-in-Ok-Some.ensures.added c.loop-symbol.invariant
