use Rattle.std.proofs.Common.{inl, inr, Err, ap}
use Rattle.std.proofs.lemmas.Result.{err_from_is_err_and}
use Rattle.pdb.specs.Container.{opens}
use Rattle.pdb_file.proofs.Known.{known_at_first}
use Rattle.pdb_text.specs.Written.{WroteFirst}
use Rattle.pdb_list.specs.CommandTexts.{command_text}
use Rattle.pdb_list.proofs.Stopped.{only_open, only_stopped, only_write}
use Rattle.pdb_list.proofs.from_reader.list_from.Goals as goal

pub returns-in_err-run_reading-clause-stopped : goal.returns-in_err-run_reading-clause-stopped
returns-in_err-run_reading-clause-stopped g c = λ G known size h.
    let first = known_at_first _ _ _ _ _ G c.new-source.ensures c.new-file.ensures known size in
    let p = err_from_is_err_and c.from_residual.result c.from_residual.ensures.1 in
    let wrote : WroteFirst (command_text c.new-source.result.file) (g.W.Write.contents c.args.out.now) (g.W.Write.contents c.run_reading.new.out) c.args.commands.now = elim (only_stopped c.in_err-run_reading.field-0.0 p.0 p.2 (rw p.1 at h)) [
      | inl e ↦ c.in_err-run_reading.ensures.read first.0 (ap Err e)
      | inr e ↦ c.in_err-run_reading.ensures.memory first.0 (ap Err e)
    ] in
    rw first.1 at wrote

pub returns-in_err-run_reading-clause-refused : goal.returns-in_err-run_reading-clause-refused
returns-in_err-run_reading-clause-refused g c = λ G known size n h.
    let first = known_at_first _ _ _ _ _ G c.new-source.ensures c.new-file.ensures known size in
    let p = err_from_is_err_and c.from_residual.result c.from_residual.ensures.1 in
    only_open c.in_err-run_reading.field-0.0 p.0 n (opens G) p.2 (rw p.1 at h) (λ x is_open. rw first.1 at (c.in_err-run_reading.ensures.refused first.0 x (ap Err is_open)))

pub returns-in_err-run_reading-clause-write : goal.returns-in_err-run_reading-clause-write
returns-in_err-run_reading-clause-write g c = λ G known size h.
    let first = known_at_first _ _ _ _ _ G c.new-source.ensures c.new-file.ensures known size in
    let p = err_from_is_err_and c.from_residual.result c.from_residual.ensures.1 in
    let failed = only_write c.in_err-run_reading.field-0.0 p.0 p.2 (rw p.1 at h) in
    rw first.1 at (c.in_err-run_reading.ensures.write first.0 (ap Err failed))

pub returns-clause-ok : goal.returns-clause-ok
returns-clause-ok g c = λ G known size.
    let first = known_at_first _ _ _ _ _ G c.new-source.ensures c.new-file.ensures known size in
    rw first.1 at (c.in_ok-run_reading.ensures.ok first.0)
