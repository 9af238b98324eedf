use Rattle.std.proofs.Common.{inl, ◌∙◌, arith}
use Rattle.std.proofs.lemmas.List.Elements.{All-more}
use Rattle.pdb_file.proofs.Groups.{IsHeldOrIn, all_held, all_taken, as_listed, rises_from, with_first, with_next}
use Rattle.pdb_file.proofs.reading.fetch.Goals as goal
use Rattle.pdb_file.proofs.reading.fetch.Goals.{then-slice-saturating_add+in_ok-fill, else-slice-saturating_add}

pub loop-slice-preserved : goal.loop-slice-preserved
loop-slice-preserved g c =
    let so_far = c.loop-slice.invariant in
    let i = c.loop-slice.slice-index in
    let xs = c.deref-slice-items.result.now in
    elim c.if-slice-saturating_add.branch [
      | then-slice-saturating_add+in_ok-fill w ↦
          let more = w.in_ok-fill.ensures in
          rw (w.held-is, w.from-is) (record {
            size = more.size ∙ so_far.size;
            kept = λ F h. so_far.kept F (more.kept F h);
            told = λ F known h. more.told F known (so_far.told F known h);
            grows = λ at h. more.grows at (so_far.grows at h);
            done = with_first c.loop-slice.held w.fill.new.held c.loop-slice.from c.loop-slice.end c.max-end.result xs i _ c.loop-slice-test.true more.size more.grows more.held so_far.done (omega (arith, more.size, c.max-end.ensures, c.max.ensures, c.min-least.ensures, c.end_of-last.ensures, w.end-is, so_far.size, so_far.within, c.size-size.ensures.size));
            behind = λ j d le lt. rises_from xs i j d _ (rw c.deref-slice-items.ensures.value c.in_ok-sorted.ensures.rises) le lt;
            within = omega (arith, more.size, c.max-end.ensures, c.max.ensures, c.min-least.ensures, c.end_of-last.ensures, w.end-is, so_far.size, so_far.within, c.size-size.ensures.size);
          })
      | else-slice-saturating_add w ↦ rw (w.held-is, w.from-is) (record {
        size = so_far.size;
        kept = so_far.kept;
        told = so_far.told;
        grows = so_far.grows;
        done = with_next c.loop-slice.held c.loop-slice.from c.loop-slice.end c.max-end.result xs i (record { offset = 0; size = 0 }) c.loop-slice-test.true (omega (arith, c.max-end.ensures, c.max.ensures, w.end-is)) so_far.done (so_far.behind i _ (omega arith) c.loop-slice-test.true) (omega (arith, c.max-end.ensures, c.max.ensures, c.min-least.ensures, c.end_of-last.ensures, w.end-is, so_far.size, so_far.within, c.size-size.ensures.size));
        behind = λ j d le lt. so_far.behind j d (omega (arith, le)) lt;
        within = omega (arith, c.max-end.ensures, c.max.ensures, c.min-least.ensures, c.end_of-last.ensures, w.end-is, so_far.size, so_far.within, c.size-size.ensures.size);
      })
    ]

-- what is held isn't read
pub loop-slice-preserved-then-is_all_held : goal.loop-slice-preserved-then-is_all_held
loop-slice-preserved-then-is_all_held g c =
    let so_far = c.loop-slice.invariant in
    record {
      size = so_far.size;
      kept = so_far.kept;
      told = so_far.told;
      grows = so_far.grows;
      done = All-more (IsHeldOrIn c.loop-slice.held c.loop-slice.from c.loop-slice.end) c.deref-slice-items.result.now c.loop-slice.slice-index _ c.loop-slice-test.true so_far.done (inl (c.is_all_held.ensures.0 c.if-is_all_held.true));
      behind = λ j d le lt. so_far.behind j d (omega (arith, le)) lt;
      within = so_far.within;
    }

pub returns-clause-held : goal.returns-clause-held
returns-clause-held g c =
    let more = c.in_ok-fill-2.ensures in
    as_listed c.fill-2.new.held c.args.slices.now c.in_ok-sorted.sorted.items c.in_ok-sorted.ensures.same
    (all_held c.loop-slice.held c.fill-2.new.held c.loop-slice.from c.loop-slice.end c.in_ok-sorted.sorted.items more.size more.grows more.held
    (all_taken (IsHeldOrIn c.loop-slice.held c.loop-slice.from c.loop-slice.end) c.loop-slice.slice-index c.deref-slice-items.result.now c.in_ok-sorted.sorted.items (omega arith) c.deref-slice-items.ensures.value c.loop-slice.invariant.done))
