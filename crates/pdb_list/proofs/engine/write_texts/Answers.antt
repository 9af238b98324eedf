use Rattle.std.proofs.Common.{sym, arith}
use Rattle.pdb.proofs.Passing.{continues_then}
use Rattle.pdb_list.specs.declared.command.Command.TheVariants.{Info}
use Rattle.pdb_list.specs.declared.engine.RunError.TheVariants.{OutOfMemory, Write}
use Rattle.pdb_list.specs.Chosen.{KeptOf}
use Rattle.pdb_list.specs.CommandTexts.{command_text}
use Rattle.pdb_list.specs.Unfailed.{Unfailed}
use Rattle.pdb_text.proofs.Written.{texts_front, texts_more}
use Rattle.pdb_list.proofs.Refused.{unfailed_steadily}
use Rattle.pdb_list.proofs.Wrote.{wrote_with}
use Rattle.pdb_list.proofs.engine.write_texts.Goals.{else-stops_unread-via-then-stops_unread+else-has_failed, else-stops_unread-via-else-stops_unread}
use Rattle.pdb_list.proofs.engine.write_texts.Goals as goal

pub returns-in_err-put_next-clause-wrote : goal.returns-in_err-put_next-clause-wrote
returns-in_err-put_next-clause-wrote g c = λ known steady kept.
    wrote_with (command_text c.args.pdb.now.file) (g.W.Write.contents c.args.out.now) (g.W.Write.contents c.loop-command.out) c.args.commands.now OutOfMemory c.from_residual-in_err-put_next.result c.from_residual-in_err-put_next.ensures.1
    (c.loop-command.command-index, omega (arith, c.loop-command-test.true), c.loop-command.invariant.wrote known steady kept)

pub returns-in_err-write_out-clause-wrote : goal.returns-in_err-write_out-clause-wrote
returns-in_err-write_out-clause-wrote g c = λ known steady kept.
    let start = c.args.pdb.now in
    let so_far = c.loop-command.invariant in
    let told = (c.put_next.ensures.continues.known (so_far.continues.known known)).1 in
    let unfailed : Unfailed c.loop-command.pdb c.put_next.new.pdb = elim c.else-stops_unread.branch [
      | else-stops_unread-via-then-stops_unread+else-has_failed w ↦ w.has_failed.ensures.unfailed w.if-has_failed.false c.loop-command.pdb (sym c.failures-failures.ensures.failures)
      | else-stops_unread-via-else-stops_unread w ↦ unfailed_steadily _ _ (so_far.continues.steady (steady w.if-stops_unread.false)).0
    ] in
    let same : KeptOf c.loop-command.pdb.file c.loop-command.kept = rw so_far.continues.file (so_far.kept kept) in
    let text = (rw c.clear.ensures.items at c.in_ok-put_next.ensures.text) told unfailed same in
    let wrote = rw (c.deref.ensures.value, text, so_far.continues.file) at c.in_err-write_out.ensures.err in
    let front = texts_front (command_text start.file) (g.W.Write.contents c.args.out.now) (g.W.Write.contents c.loop-command.out) (g.W.Write.contents c.write_out.new.out) c.args.commands.now c.loop-command.command-index Info c.loop-command-test.true (so_far.wrote known steady kept) wrote in
    wrote_with (command_text start.file) (g.W.Write.contents c.args.out.now) (g.W.Write.contents c.write_out.new.out) c.args.commands.now Write c.from_residual-in_err-write_out.result c.from_residual-in_err-write_out.ensures.1 front

pub loop-command-preserved : goal.loop-command-preserved
loop-command-preserved g c =
    let start = c.args.pdb.now in
    let so_far = c.loop-command.invariant in
    let on = c.put_next.ensures.continues in
    record {
      continues = continues_then start c.loop-command.pdb c.put_next.new.pdb so_far.continues on;
      kept = λ kept.
          let same : KeptOf c.loop-command.pdb.file c.loop-command.kept = rw so_far.continues.file (so_far.kept kept) in
          rw so_far.continues.file at (c.in_ok-put_next.ensures.kept same);
      wrote = λ known steady kept.
          let told = (on.known (so_far.continues.known known)).1 in
          let unfailed : Unfailed c.loop-command.pdb c.put_next.new.pdb = elim c.else-stops_unread.branch [
            | else-stops_unread-via-then-stops_unread+else-has_failed w ↦ w.has_failed.ensures.unfailed w.if-has_failed.false c.loop-command.pdb (sym c.failures-failures.ensures.failures)
            | else-stops_unread-via-else-stops_unread w ↦ unfailed_steadily _ _ (so_far.continues.steady (steady w.if-stops_unread.false)).0
          ] in
          let same : KeptOf c.loop-command.pdb.file c.loop-command.kept = rw so_far.continues.file (so_far.kept kept) in
          let text = (rw c.clear.ensures.items at c.in_ok-put_next.ensures.text) told unfailed same in
          let wrote = rw (c.deref.ensures.value, text, so_far.continues.file) at c.in_ok-write_out.ensures.ok in
          texts_more (command_text start.file) (g.W.Write.contents c.args.out.now) (g.W.Write.contents c.loop-command.out) (g.W.Write.contents c.write_out.new.out) c.args.commands.now c.loop-command.command-index Info c.loop-command-test.true (so_far.wrote known steady kept) wrote;
    }
