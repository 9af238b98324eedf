use Rattle.std.proofs.Common.{◌≡◌, ◌++◌, length, All, arith}
use Rattle.std.proofs.lemmas.List.Elements.{All-push}
use Rattle.std.proofs.lemmas.List.FromFn.{length-range_with_len}
use Rattle.std.proofs.lemmas.Bool.Decides.{nat_tests}
use Rattle.pdb_base.specs.Joined.{joined_places, slice_places, IsFull}
use Rattle.pdb_base.proofs.PageLemmas.{joined-push, joined-none, joined-length}
use Rattle.pdb_base.proofs.Views.{run-alone, viewed-places}
use Rattle.pdb_base.proofs.pages.view_runs.Goals as goal
use Rattle.pdb_base.proofs.pages.view_runs.Goals.{then-last-gt0+in_ok-push, else-last-gt0}

pub returns-then-is_empty-clause-bytes : goal.returns-then-is_empty-clause-bytes
returns-then-is_empty-clause-bytes g c = λ told.
    let none : length c.args.runs.before.items ≡ 0 = grind (arith, nat_tests) in
    rw (run-alone c.args.runs.before.items c.args.runs.last none) (c.view_run.ensures.bytes told)

pub returns-then-is_empty-clause-sized : goal.returns-then-is_empty-clause-sized
returns-then-is_empty-clause-sized g c =
    let none : length c.args.runs.before.items ≡ 0 = grind (arith, nat_tests) in
    rw (run-alone c.args.runs.before.items c.args.runs.last none, length-range_with_len c.args.runs.last.offset c.args.runs.last.size) c.view_run.ensures.sized

pub returns-clause-sized : goal.returns-clause-sized
returns-clause-sized g c =
    let before = c.args.runs.before.items in
    let last = c.args.runs.last in
    let same : joined_places c.if-last-gt0.before.items ≡ joined_places before ++ slice_places last =
    elim c.if-last-gt0.branch [
      | then-last-gt0+in_ok-push w ↦ rw (w.before-is, w.in_ok-push.ensures.items) (joined-push before last)
      | else-last-gt0 w ↦ rw w.before-is (joined-none before last (omega arith))
    ] in
    rw (← same, joined-length c.if-last-gt0.before.items, ← c.deref.ensures.value) c.view.ensures.sized

pub returns-clause-bytes : goal.returns-clause-bytes
returns-clause-bytes g c = λ told.
    let before = c.args.runs.before.items in
    let last = c.args.runs.last in
    let same : joined_places c.if-last-gt0.before.items ≡ joined_places before ++ slice_places last =
    elim c.if-last-gt0.branch [
      | then-last-gt0+in_ok-push w ↦ rw (w.before-is, w.in_ok-push.ensures.items) (joined-push before last)
      | else-last-gt0 w ↦ rw w.before-is (joined-none before last (omega arith))
    ] in
    let full : All IsFull c.if-last-gt0.before.items =
    elim c.if-last-gt0.branch [
      | then-last-gt0+in_ok-push w ↦ rw (w.before-is, w.in_ok-push.ensures.items) (All-push IsFull before last c.requires.full (omega arith))
      | else-last-gt0 w ↦ rw w.before-is c.requires.full
    ] in
    rw (← same, ← viewed-places (g.S.Meaning.state c.args.source.now).file c.if-last-gt0.before.items full, ← c.deref.ensures.value) (c.view.ensures.bytes told)
