use Rattle.std.proofs.Common.{◌≤◌, length, ◌∙◌, arith}
use Rattle.std.proofs.lemmas.Grind.{common_steps}
use Rattle.pdb.specs.Views.{symbol_of, symbols_left, symbols_bytes, symbols_place}
use Rattle.pdb_c.proofs.SymbolSteps.{place_next, items_next, says_next, others_next}
use Rattle.pdb_c.proofs.symbols.fill.Goals as goal

pub loop-count-preserved : goal.loop-count-preserved
loop-count-preserved c =
    let so_far = c.loop-count.invariant in
    let yields = rw c.in-Ok-Some.field-0-is at c.in-Ok-Some.ensures.yields in
    let behind = rw c.in-Ok-Some.field-0-is at c.in-Ok-Some.ensures.behind in
    let rows = c.loop-count.records in
    let n = c.loop-count.count in
    let row = c.in-Some.row in
    let s = symbol_of c.in-Ok-Some.symbol in
    let it = c.next.new.self in
    let bytes = c.next.ensures.bytes ∙ so_far.bytes in
    let small : length (symbols_bytes it) ≤ 4294967295 = rw bytes c.requires.small in
    record {
      size = grind (arith, common_steps, so_far.size);
      inside = grind (arith, common_steps);
      bytes = bytes;
      items = items_next rows n row s (symbols_left c.loop-count.symbols).items (symbols_left it).items _ c.loop-count-test.true so_far.items yields.0 c.in-Some.ensures.entry;
      fault = so_far.fault ∙ yields.1;
      place = place_next (symbols_bytes it) (symbols_place it) c.behind.result s behind it.inside small c.behind.ensures;
      says = says_next rows n row c.loop-count-test.true so_far.says c.in-Some.ensures.says;
      others = others_next rows c.args.records.now n row c.loop-count-test.true so_far.size so_far.others;
    }
