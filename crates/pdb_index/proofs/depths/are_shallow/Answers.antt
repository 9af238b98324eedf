use Rattle.std.proofs.Common.{◌≡◌, [], ◌∷◌, ◌++◌, length, length-append, refl, ap, arith}
use Rattle.std.proofs.lemmas.Bool.{false≢true}
use Rattle.pdb_index.specs.WellMade.{IsDepth}
use Rattle.pdb_index.proofs.DepthSteps.{all_shallow, pushed, too_deep}
use Rattle.pdb_index.proofs.depths.are_shallow.Goals as goal

pub returns-then-depth-from : goal.returns-then-depth-from
returns-then-depth-from c = (
  λ e. absurd (false≢true e),
  λ shallow. absurd (too_deep c.args.index.now.bytes.now c.args.index.now.layout c.loop-number.number c.depth_of-depth.result c.depth_of-depth.ensures
      (omega (arith, c.from.ensures, c.if-depth-from.true)) (omega (arith, c.loop-number-test.true)) shallow),
)

pub loop-number-preserved : goal.loop-number-preserved
loop-number-preserved c =
    let b = c.args.index.now.bytes.now in
    let t = c.args.index.now.layout in
    let so_far = c.loop-number.depths.items in
    let depth = c.depth_of-depth.result in
    let count = c.loop-number.invariant.count in
    let e : c.push.new.self.items ≡ so_far ++ depth ∷ [] = c.in_ok-push.ensures.items in
    let here : IsDepth b t (length so_far) depth = rw count c.depth_of-depth.ensures in
    record {
      count = omega (arith, ap length e, length-append so_far (depth ∷ []), count);
      kept = rw e (pushed b t so_far depth c.loop-number.invariant.kept here (omega (arith, c.from.ensures, c.if-depth-from.false)));
    }

pub returns : goal.returns
returns c =
    (λ _. all_shallow c.args.index.now.bytes.now c.args.index.now.layout c.loop-number.depths.items c.loop-number.invariant.kept (omega (arith, c.loop-number.invariant.count, c.loop-number-test.false)), λ _. refl)
