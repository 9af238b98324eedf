use Rattle.std.proofs.Common.{ℕ, ◌+◌, rules, arith, refl}
use borrow.Author.Count.{below_more}
use Rattle.pdb_index.specs.WellMade.{first_run, HasRuns}
use Rattle.pdb_index.proofs.RisingNumbers.{last}
use Rattle.pdb_index.proofs.rising.starts_rise.Goals as goal

pub loop-section-preserved : goal.loop-section-preserved
loop-section-preserved c =
    let b = c.args.index.now.bytes.now in
    let t = c.args.index.now.layout in
    below_more (λ (k : ℕ). HasRuns b t (first_run b t k) (first_run b t (k + 1))) c.loop-section.section c.loop-section.invariant (c.section_has_runs.ensures.0 (search rules))

pub returns : goal.returns
returns c = (λ _. record { each = λ k there. c.loop-section.invariant k (omega (arith, there, c.loop-section-test.false)) }, λ _. refl)

pub section_has_runs-requires-clause-runs : goal.section_has_runs-requires-clause-runs
section_has_runs-requires-clause-runs c =
    let t = c.args.index.now.layout in
    let below = last (first_run c.args.index.now.bytes.now t) t.sections.rows (c.loop-section.section + 1) c.requires.runs (omega (arith, c.loop-section-test.true)) in
    omega (arith, below, c.requires.to)
