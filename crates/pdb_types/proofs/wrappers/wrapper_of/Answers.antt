use Rattle.std.proofs.Common.{rules, ◌≡◌, false, sym}
use Rattle.pdb_items.specs.Ids.{kind_at}
use Rattle.pdb_items.specs.ItemViews.{item_of}
use Rattle.pdb_types.specs.Wrappers.{is_wrapper}
use Rattle.pdb_types.proofs.WrapperSteps.{not_wrapped}
use Rattle.pdb_types.proofs.wrappers.wrapper_of.Goals as goal

pub returns-else-is_wrapper : goal.returns-else-is_wrapper
returns-else-is_wrapper c =
    let other : is_wrapper (kind_at (item_of c.in_ok-item.item).bytes) ≡ false = search rules in
    not_wrapped c.args.types.now c.args.index (item_of c.in_ok-item.item) (sym c.in_ok-item.ensures) other
