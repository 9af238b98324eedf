use Rattle.std.proofs.Common.{refl, rules, ap, ◌∙◌, arith}
use Rattle.pdb_file.proofs.Files.{with_agrees, without_agrees}
use Rattle.pdb_file.proofs.FreeRuns.{found_held, held_join, held_then, with_more}
use Rattle.pdb_file.proofs.reading.fill.Goals as goal

pub loop-at-preserved : goal.loop-at-preserved
loop-at-preserved g c =
    let so_far = c.loop-at.invariant in
    let more = c.in_ok-insert.ensures.held c.if-not-branch.false in
    record {
      size = ap (λ k. k.size) more.2 ∙ so_far.size;
      kept = λ F h. so_far.kept F (without_agrees F _ _ _ more h);
      told = λ F known h.
          let is = so_far.told F known h in
          with_agrees F _ _ _ more is (c.in_ok-bytes.ensures.told F known (omega (arith, is.size, c.size.ensures.size, c.if-at-size.false)));
      grows = λ at h. with_more _ _ _ more at (so_far.grows at h);
      held = held_then _ _ _ _ c.loop-at.at _ more so_far.held refl (omega (arith, c.in_ok-bytes.ensures.len));
    }

pub loop-at-preserved-in-Some : goal.loop-at-preserved-in-Some
loop-at-preserved-in-Some g c =
    let so_far = c.loop-at.invariant in
    record {
      size = so_far.size;
      kept = so_far.kept;
      told = so_far.told;
      grows = so_far.grows;
      held = held_join c.loop-at.held _ c.loop-at.at _ so_far.held (found_held c.loop-at.held _ _ _ _ c.in-Some.ensures.held refl (search rules));
    }

pub returns-in_err-insert-clause-grows : goal.returns-in_err-insert-clause-grows
returns-in_err-insert-clause-grows g c = λ at h. rw c.in_err-insert.ensures.refused (c.loop-at.invariant.grows at h)

pub returns-then-not-branch-clause-grows : goal.returns-then-not-branch-clause-grows
returns-then-not-branch-clause-grows g c = λ at h. rw (c.in_ok-insert.ensures.same c.if-not-branch.true) (c.loop-at.invariant.grows at h)
