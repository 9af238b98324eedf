use Rattle.std.proofs.Common.{◌≡◌, ◌≤◌, Bool, true, false, filter, List, length, sym, ap, subst, ◌∙◌}
use Rattle.std.proofs.lemmas.Result.{IfOk-weaker}
use Rattle.pdb_places.specs.declared.range.CodeRange.{CodeRange}
use Rattle.pdb_places.specs.RangeOrder.{InOrder}
use Rattle.pdb_places.specs.Covering.{first_covering}
use Rattle.pdb_places.specs.Sorting.{has_bytes, IsSortOf}
use Rattle.pdb_places.proofs.Sorts.{sorted_same, sorted_apart, sorted_few, with_bytes_covering, few_pass}
use Rattle.pdb_places.proofs.ranges.Ranges.new.Goals as goal

from_rows : (rows xs ys : List CodeRange) → xs ≡ filter has_bytes rows → IsSortOf xs ys → IsSortOf (filter has_bytes rows) ys
from_rows rows xs ys e s = subst (λ (zs : List CodeRange). IsSortOf zs ys) e s

differ : {b : Bool} → b ≡ false → b ≡ true → ⊥
differ h k = cc

few_is : (rows xs : List CodeRange) → xs ≡ filter has_bytes rows → length xs ≤ length rows
few_is rows xs e = rw e (few_pass has_bytes rows)

pub returns-then-is_in_order-clause-same : goal.returns-then-is_in_order-clause-same
returns-then-is_in_order-clause-same c =
    sorted_same _ _ (from_rows c.args.rows.now _ _ c.in_ok-sorted.ensures.kept c.in_ok-sort.ensures.sorted) (subst InOrder c.as_slice.ensures.value (c.is_in_order.ensures.0 c.if-is_in_order.true))

pub returns-then-is_in_order-clause-few : goal.returns-then-is_in_order-clause-few
returns-then-is_in_order-clause-few c = sorted_few _ _ (from_rows c.args.rows.now _ _ c.in_ok-sorted.ensures.kept c.in_ok-sort.ensures.sorted)

pub returns-clause-same : goal.returns-clause-same
returns-clause-same c = IfOk-weaker c.of.result _ _ (λ x is q. ap (first_covering q) (is ∙ c.in_ok-with_bytes.ensures.kept) ∙ with_bytes_covering q c.args.rows.now) c.of.ensures.is

pub returns-clause-apart : goal.returns-clause-apart
returns-clause-apart c = IfOk-weaker c.of.result _ _ (λ x is h.
    let order = sorted_apart _ _ (from_rows c.args.rows.now _ _ c.in_ok-sorted.ensures.kept c.in_ok-sort.ensures.sorted) h in
    absurd (differ c.if-is_in_order.false (c.is_in_order.ensures.1 (subst InOrder (sym c.as_slice.ensures.value) order)))) c.of.ensures.is

pub returns-clause-few : goal.returns-clause-few
returns-clause-few c = IfOk-weaker c.of.result _ _ (λ x is. few_is c.args.rows.now _ (is ∙ c.in_ok-with_bytes.ensures.kept)) c.of.ensures.is
