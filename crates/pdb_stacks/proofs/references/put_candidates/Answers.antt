use Rattle.std.proofs.Common.{◌++◌, ◌∙◌, ap, sym}
use Rattle.pdb_stacks.proofs.NameSteps.{one_more, other_byte, read_before}
use Rattle.pdb_stacks.proofs.references.put_candidates.Goals as goal
use Rattle.pdb_stacks.proofs.references.put_candidates.Goals.{then-at-free+then-is_of+in_ok-free, else-at-free, else-at-free-via-then-at-free+else-is_of, else-at-free-via-else-at-free}

pub loop-at-preserved : goal.loop-at-preserved
loop-at-preserved c =
    let line = c.args.line.now in
    let so_far = c.loop-at.invariant in
    let free = c.loop-at.free in
    let at = c.loop-at.at in
    let inside = c.loop-at-test.true in
    elim c.if-at-free.branch [
      | then-at-free+then-is_of+in_ok-free w ↦
          let named = rw w.run_end.ensures.is at w.reference_of.ensures in
          let end = rw (w.run_end.ensures.is, named) at w.in_ok-free.ensures.free in
          let puts = rw named at w.in_ok-free.ensures.puts in
          record {
            puts = rw (w.out-is, w.free-is, end) (one_more line free at c.loop-at.out.items w.put_reference.new.out.items inside w.if-at-free.true (sym w.if-is_of.ensures) puts ∙ so_far.puts);
            known = rw w.mark-is w.symbol_mark-mark.ensures.known;
          }
      | else-at-free w ↦ record {
        puts = rw (w.out-is, w.free-is)
            (elim w.else-at-free.branch [
              | else-at-free-via-then-at-free+else-is_of v ↦ ap (λ l. c.loop-at.out.items ++ l) (sym (other_byte line free at inside (sym v.if-is_of.ensures))) ∙ so_far.puts
              | else-at-free-via-else-at-free v ↦ ap (λ l. c.loop-at.out.items ++ l) (sym (read_before line free at inside v.if-at-free.false)) ∙ so_far.puts
            ]);
        known = rw w.mark-is so_far.known;
      }
    ]
