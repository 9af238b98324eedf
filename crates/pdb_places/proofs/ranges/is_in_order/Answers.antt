use Rattle.std.proofs.Common.{◌≡◌, Bool, true, false, ◌-◌, refl, arith}
use Rattle.std.proofs.lemmas.List.{get_or_default}
use Rattle.pdb_places.proofs.Orders.{in_order_on, in_order_whole, not_in_order}
use Rattle.pdb_places.proofs.ranges.is_in_order.Goals as goal

differ : {b : Bool} → b ≡ false → b ≡ true → ⊥
differ h k = cc

pub loop-i-preserved : goal.loop-i-preserved
loop-i-preserved c =
    in_order_on c.args.ranges.now c.loop-i.i c.loop-i.auto.i c.loop-i.invariant (λ d.
    rw (get_or_default c.args.ranges.now (c.loop-i.i - 1) d c.index-ranges-i.result (omega (arith, c.loop-i-test.true)), get_or_default c.args.ranges.now c.loop-i.i d c.index-ranges-i-in-loop-i.result c.loop-i-test.true, ← c.index-ranges-i.is, ← c.index-ranges-i-in-loop-i.is) (c.goes_on.ensures.0 c.if-not-goes_on.false))

pub returns-then-not-goes_on : goal.returns-then-not-goes_on
returns-then-not-goes_on c = (
  λ h. absurd cc,
  λ h. absurd (not_in_order c.args.ranges.now c.loop-i.i _ _ c.loop-i.auto.i c.loop-i-test.true c.index-ranges-i.is c.index-ranges-i-in-loop-i.is (λ g. absurd (differ c.if-not-goes_on.true (c.goes_on.ensures.1 g))) h),
)

pub returns : goal.returns
returns c = (λ h. in_order_whole c.args.ranges.now c.loop-i.i c.loop-i-test.false c.loop-i.invariant, λ h. refl)
