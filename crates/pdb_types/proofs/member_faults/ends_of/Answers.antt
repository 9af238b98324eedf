use Rattle.std.proofs.lemmas.List.Elements.{All-push}
use Rattle.pdb_types.specs.MemberEndViews.{IsEndIn}
use Rattle.pdb_types.proofs.member_faults.ends_of.Goals as goal

pub loop-item-preserved : goal.loop-item-preserved
loop-item-preserved c =
    let pushed = c.in_ok-push_row.ensures.pushed in
    record {
      ends = rw pushed (All-push (IsEndIn c.args.types.now) c.loop-item.ends.items _ c.loop-item.invariant.ends c.list_end-end.ensures);
      room = c.in_ok-push_row.ensures.room;
    }
