use Rattle.pdb_items.specs.ItemViews.{item_of, items_left}
use Rattle.pdb_types.proofs.DefinitionLists.{one_more, no_more}
use Rattle.pdb_types.proofs.definitions.rows_of.Goals as goal

pub loop-item-preserved : goal.loop-item-preserved
loop-item-preserved c =
    let follows = (rw c.in-Ok-Some.field-0-is at c.in-Ok-Some.ensures.yields) in
    record {
      all = one_more (item_of c.in-Ok-Some.item) (items_left c.loop-item.items).items (items_left c.next.new.self).items _ _ _ follows.0 c.in_ok-add-in-Ok-Some.ensures.added c.loop-item.invariant.all;
      room = c.in_ok-add-in-Ok-Some.ensures.room;
    }

pub returns-in-Ok-None-clause-all : goal.returns-in-Ok-None-clause-all
returns-in-Ok-None-clause-all c =
    let ends = (rw c.in-Ok-None.field-0-is at c.in-Ok-None.ensures.yields) in
    no_more _ _ (items_left c.loop-item.items).items ends.0 c.loop-item.invariant.all

pub returns-in-Err-clause-all : goal.returns-in-Err-clause-all
returns-in-Err-clause-all c = no_more _ _ (items_left c.loop-item.items).items c.in-Err.ensures.yields.0 c.loop-item.invariant.all
