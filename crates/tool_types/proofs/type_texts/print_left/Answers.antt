use Rattle.std.proofs.Common.{refl, ◌∙◌}
use Rattle.pdb_items.specs.ItemViews.{item_of, items_left}
use Rattle.tool_output.specs.ErrorLine.{error_line}
use Rattle.tool_printing.proofs.Printed.{before_halted, before_here, before_more, before_none, before_prints, prints_err}
use Rattle.tool_types.specs.TypeViews.{types_of}
use Rattle.tool_types.proofs.TypeLists.{fault_of_types, next_type}
use Rattle.tool_types.proofs.type_texts.print_left.Goals as goal

pub loop-item-init : goal.loop-item-init
loop-item-init g c = record {
  printed = before_none _ _;
  failures = refl;
}

pub returns-in_err-put_item-in-Ok-Some-clause-prints : goal.returns-in_err-put_item-in-Ok-Some-clause-prints
returns-in_err-put_item-in-Ok-Some-clause-prints g c =
    prints_err _ _ _ c.from_residual.result _ c.from_residual.ensures.1 (before_here _ _ _ _ c.loop-item.invariant.printed)

pub returns-in-Err-clause-prints : goal.returns-in-Err-clause-prints
returns-in-Err-clause-prints g c =
    let last = fault_of_types (types_of c.args.types) _ _ c.in-Err.e c.in-Err.ensures.yields in
    before_prints _ _ _ (error_line c.in-Err.e) _ _ c.print_refused.result c.loop-item.invariant.printed last c.print_refused.ensures.prints

pub returns-in_err-print-clause-prints : goal.returns-in_err-print-clause-prints
returns-in_err-print-clause-prints g c =
    let text = rw c.clear.ensures.items at c.in_ok-put_item-in-Ok-Some.ensures in
    let printed = rw (c.deref.ensures.value, text) at c.in_err-print.ensures.prints in
    let next = next_type (types_of c.args.types) (items_left c.loop-item.items) (items_left c.next.new.self) (item_of c.in-Ok-Some.item) (rw c.in-Ok-Some.field-0-is at c.in-Ok-Some.ensures.yields) in
    prints_err _ _ _ c.from_residual-in_err-print.result _ c.from_residual-in_err-print.ensures.1 (before_halted _ _ _ _ _ _ _ c.loop-item.invariant.printed next printed)

pub loop-item-preserved : goal.loop-item-preserved
loop-item-preserved g c =
    let text = rw c.clear.ensures.items at c.in_ok-put_item-in-Ok-Some.ensures in
    let printed = rw (c.deref.ensures.value, text) at c.in_ok-print.ensures.prints in
    let next = next_type (types_of c.args.types) (items_left c.loop-item.items) (items_left c.next.new.self) (item_of c.in-Ok-Some.item) (rw c.in-Ok-Some.field-0-is at c.in-Ok-Some.ensures.yields) in
    record {
      printed = before_more _ _ _ _ _ _ _ c.loop-item.invariant.printed next printed;
      failures = c.in_ok-print.ensures.failures ∙ c.loop-item.invariant.failures;
    }
