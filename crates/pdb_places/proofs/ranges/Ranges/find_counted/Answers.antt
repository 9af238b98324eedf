use Rattle.std.proofs.Common.{◌≡◌, ◌+◌, ◌≤◌, List, length, ap, subst, ◌∙◌, arith}
use Rattle.pdb_places.specs.declared.range.CodeRange.{CodeRange}
use Rattle.pdb_places.specs.declared.painted.Cut.{Cut}
use Rattle.pdb_places.proofs.Halves.{below_power}
use Rattle.pdb_places.proofs.CutHalves.{twice_few, twice_below}
use Rattle.pdb_places.proofs.ranges.Ranges.find_counted.Goals as goal

pub returns-then-self-clause-few : goal.returns-then-self-clause-few
returns-then-self-clause-few c =
    subst (λ (l : List CodeRange). c.halve.new.steps.count ≤ c.args.steps.now.count + length l) (c.as_slice.ensures.value ∙ c.self.view_is)
    (c.halve.ensures.probes (length c.as_slice.result.now) (below_power (length c.as_slice.result.now)))

pub returns-else-self-clause-few : goal.returns-else-self-clause-few
returns-else-self-clause-few c =
    let cuts = c.self.invariant.1 c.if-self.false in
    let two = cuts.two in
    let looked : length c.as_slice-else-self.result.now ≡ length c.self.inside.cuts.items = ap (λ (l : List Cut). length l) c.as_slice-else-self.ensures.value in
    let seen : length c.self.inside.ranges.items ≡ length c.args.self.now = ap (λ (l : List CodeRange). length l) c.self.view_is in
    let twice = twice_few (length c.args.self.now) in
    c.find_cut.ensures.probes (length c.args.self.now) (omega arith)

pub returns-else-self-clause-soon : goal.returns-else-self-clause-soon
returns-else-self-clause-soon c = λ digits l.
    let cuts = c.self.invariant.1 c.if-self.false in
    let two = cuts.two in
    let looked : length c.as_slice-else-self.result.now ≡ length c.self.inside.cuts.items = ap (λ (l : List Cut). length l) c.as_slice-else-self.ensures.value in
    let seen : length c.self.inside.ranges.items ≡ length c.args.self.now = ap (λ (l : List CodeRange). length l) c.self.view_is in
    let twice = twice_below (length c.args.self.now) digits l in
    omega (arith, c.find_cut.ensures.probes (digits + 1) (omega arith))
