use Rattle.pdb_list.specs.CommandTexts.{command_text}
use Rattle.pdb_list.specs.declared.engine.RunError.TheVariants.{OutOfMemory}
use Rattle.pdb_text.proofs.Written.{on_ok}
use Rattle.pdb_list.proofs.Wrote.{wrote_all, wrote_by}
use Rattle.pdb_list.proofs.engine.run.Goals as goal

pub returns-clause-ok : goal.returns-clause-ok
returns-clause-ok g c = λ known steady.
    let on = c.in-Ok.ensures.continues in
    let wrote = rw on.file at (c.write_all.ensures.wrote (on.known known) (λ h. (on.steady steady).0)) in
    on_ok c.write_all.result (λ all. (c.in-Ok.ensures.opened (on.known known).1, all))
    (wrote_all (command_text (g.S.Meaning.state c.args.source).file) (g.W.Write.contents c.args.out.now) (g.W.Write.contents c.write_all.new.out) c.args.commands.now c.write_all.result wrote)

pub returns-clause-memory : goal.returns-clause-memory
returns-clause-memory g c = λ known steady wanted.
    let on = c.in-Ok.ensures.continues in
    let wrote = rw on.file at (c.write_all.ensures.wrote (on.known known) (λ h. (on.steady steady).0)) in
    wrote_by (command_text (g.S.Meaning.state c.args.source).file) (g.W.Write.contents c.args.out.now) (g.W.Write.contents c.write_all.new.out) c.args.commands.now OutOfMemory c.write_all.result wrote wanted
