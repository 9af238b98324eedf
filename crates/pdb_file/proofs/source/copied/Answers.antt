use Rattle.std.proofs.Common.{sym, true≢false, ◌∙◌}
use Rattle.pdb_file.proofs.source.copied.Goals as goal

pub returns-then-not-branch-clause-whole : goal.returns-then-not-branch-clause-whole
returns-then-not-branch-clause-whole c = λ all.
    let whole = c.in_ok-copy_slice.ensures.whole (all c.loop-slice.slice-index _ c.loop-slice-test.true) in
    absurd (true≢false (sym whole ∙ c.if-not-branch.true))
