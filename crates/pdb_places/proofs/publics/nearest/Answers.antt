use Rattle.std.proofs.Common.{arith}
use Rattle.pdb.specs.Views.{symbol_of, symbols_left}
use Rattle.pdb_places.proofs.Nearest.{one_nearer, one_count}
use Rattle.pdb_places.proofs.publics.nearest.Goals as goal

pub loop-symbol-preserved : goal.loop-symbol-preserved
loop-symbol-preserved c =
    let follows = (rw c.in-Ok-Some.field-0-is at c.in-Ok-Some.ensures.yields) in
    let inv = c.loop-symbol.invariant in
    let one = one_count (symbol_of c.in-Ok-Some.symbol) (symbols_left c.loop-symbol.symbols).items (symbols_left c.next.new.self).items follows.0 in
    record {
      nearest = one_nearer c.args.place (symbol_of c.in-Ok-Some.symbol) (symbols_left c.loop-symbol.symbols).items (symbols_left c.next.new.self).items _ _ _ follows.0 c.with-best.ensures.nearest inv.nearest;
      counted = omega (arith, one, c.with-best.ensures.counted, inv.counted);
    }
