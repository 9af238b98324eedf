use Rattle.std.proofs.Common.{◌≡◌, length, take, ap, ◌∙◌, arith, rules}
use Rattle.std.proofs.lemmas.List.{length-take, with_items_is, places}
use Rattle.pdb_file.proofs.Parts.{read_part}
use Rattle.pdb_file.proofs.reading.read_run.Goals as goal

pub loop-done-preserved : goal.loop-done-preserved
loop-done-preserved g c =
    let so_far = c.loop-done.invariant in
    let done = c.loop-done.done in
    let front = take done c.loop-done.bytes.items in
    let same = with_items_is c.loop-done.bytes c.read_behind.new.bytes (search (rules, places)) in
    let many : length front ≡ done = omega (arith, length-take done c.loop-done.bytes.items, so_far.within, so_far.many, c.loop-done.bytes.ok.0) in
    record {
      told = λ F known le.
          let p = so_far.told F known le in
          rw same (read_part F c.read_behind.new.bytes front c.args.from done c.in_ok-count.count c.in-Some-checked_add.at p many (omega arith) (c.in_ok-count.ensures.front ∙ ap (take done) c.as_mut_slice.ensures.value)
          (c.in_ok-count.ensures.told F known (omega (arith, p.fits, many))));
      within = omega (arith, c.in_ok-count.ensures.fits, c.read_behind.ensures.len, ap length c.as_mut_slice.ensures.value, so_far.many, c.loop-done.bytes.ok.0);
      many = so_far.many;
    }
