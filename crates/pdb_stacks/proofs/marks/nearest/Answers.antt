use Rattle.std.proofs.Common.{◌∙◌, sym, ap}
use Rattle.std.specs.Prelude.{max, length, unwrap_or}
use Rattle.pdb_stacks.specs.SymbolMarks.{mark_at, nearest}
use Rattle.pdb_stacks.proofs.Finds.{found, past}
use Rattle.pdb_stacks.proofs.marks.nearest.Goals as goal

pub returns-in-Some : goal.returns-in-Some
unfolding nearest
returns-in-Some c =
    let is = c.loop-at.invariant ∙ found (mark_at c.args.line.now) c.args.line.now c.loop-at.at c.in-Some.mark c.loop-at-test.true (sym c.in-Some.ensures) in
    sym (ap (λ o. unwrap_or o (max c.args.from (length c.args.line.now))) is)

pub loop-at-preserved : goal.loop-at-preserved
loop-at-preserved c = c.loop-at.invariant ∙ past (mark_at c.args.line.now) c.args.line.now c.loop-at.at c.loop-at-test.true (sym c.in_default.ensures)
