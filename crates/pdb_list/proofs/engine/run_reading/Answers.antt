use Rattle.std.proofs.Common.{sym, ◌∙◌}
use Rattle.std.proofs.lemmas.Bool.{not-false}
use Rattle.pdb.specs.Source.{IsKnown}
use Rattle.pdb_list.specs.CommandTexts.{command_text}
use Rattle.pdb_list.specs.Wrote.{Wrote}
use Rattle.pdb_list.specs.declared.engine.RunError.TheVariants.{OutOfMemory, Read, Write}
use Rattle.pdb_text.proofs.Written.{on_ok}
use Rattle.pdb_list.proofs.Wrote.{wrote_all, wrote_by}
use Rattle.pdb_list.proofs.engine.run_reading.Given as given
use Rattle.pdb_list.proofs.engine.run_reading.Goals as goal

-- what was written of the texts
wrote : (g : given.Over) (c : goal.After-drop-pdb g) → IsKnown (g.S.Meaning.state c.args.source)
    → Wrote (command_text (g.S.Meaning.state c.args.source).file) (g.W.Write.contents c.args.out.now) (g.W.Write.contents c.write_all.new.out) c.args.commands.now c.write_all.result
wrote g c known =
    let on = c.in-Ok.ensures.continues in
    rw on.file at (c.write_all.ensures.wrote (on.known known) (λ h. sym c.steady-stops_unread.ensures.steady ∙ not-false _ h))

pub returns-clause-ok : goal.returns-clause-ok
returns-clause-ok g c = λ known.
    on_ok c.write_all.result (λ all. (c.in-Ok.ensures.opened (c.in-Ok.ensures.continues.known known).1, all))
    (wrote_all (command_text (g.S.Meaning.state c.args.source).file) (g.W.Write.contents c.args.out.now) (g.W.Write.contents c.write_all.new.out) c.args.commands.now c.write_all.result (wrote g c known))

pub returns-clause-memory : goal.returns-clause-memory
returns-clause-memory g c = λ known wanted.
    wrote_by (command_text (g.S.Meaning.state c.args.source).file) (g.W.Write.contents c.args.out.now) (g.W.Write.contents c.write_all.new.out) c.args.commands.now OutOfMemory c.write_all.result (wrote g c known) wanted

pub returns-clause-read : goal.returns-clause-read
returns-clause-read g c = λ known failed.
    wrote_by (command_text (g.S.Meaning.state c.args.source).file) (g.W.Write.contents c.args.out.now) (g.W.Write.contents c.write_all.new.out) c.args.commands.now Read c.write_all.result (wrote g c known) failed

pub returns-clause-write : goal.returns-clause-write
returns-clause-write g c = λ known failed.
    wrote_by (command_text (g.S.Meaning.state c.args.source).file) (g.W.Write.contents c.args.out.now) (g.W.Write.contents c.write_all.new.out) c.args.commands.now Write c.write_all.result (wrote g c known) failed
