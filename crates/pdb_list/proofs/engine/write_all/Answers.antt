use Rattle.std.proofs.lemmas.List.{take-append-drop}
use Rattle.pdb_list.specs.CommandTexts.{command_text}
use Rattle.pdb_list.proofs.Wrote.{wrote_stopped, wrote_then}
use Rattle.pdb_list.proofs.engine.write_all.Goals as goal

pub returns-in_err-write_texts-clause-wrote : goal.returns-in_err-write_texts-clause-wrote
returns-in_err-write_texts-clause-wrote g c = λ known steady.
    let first = c.in_err-write_texts.ensures.wrote known steady tt in
    let all = wrote_stopped (command_text c.args.pdb.now.file) (g.W.Write.contents c.args.out.now) (g.W.Write.contents c.write_texts.new.out) c.split_at.result.0.now c.split_at.result.1.now c.in_err-write_texts.field-0.0 c.from_residual.result c.from_residual.ensures.1 first in
    rw (c.split_at.ensures.front, c.split_at.ensures.back, take-append-drop c.plain_count.result c.args.commands.now) at all

pub returns-clause-wrote : goal.returns-clause-wrote
returns-clause-wrote g c = λ known steady.
    let on = c.write_texts.ensures.continues in
    let first = c.in_ok-write_texts.ensures.wrote known steady tt in
    let rest = rw on.file at (c.write_rest.ensures.wrote (on.known known) (λ h. (on.steady (steady h)).0)) in
    let all = wrote_then (command_text c.args.pdb.now.file) (g.W.Write.contents c.args.out.now) (g.W.Write.contents c.write_texts.new.out) (g.W.Write.contents c.write_rest.new.out) c.split_at.result.0.now c.split_at.result.1.now c.write_rest.result first rest in
    rw (c.split_at.ensures.front, c.split_at.ensures.back, take-append-drop c.plain_count.result c.args.commands.now) at all
