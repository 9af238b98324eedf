use Rattle.std.proofs.Common.{[], ◌∷◌, flat_map}
use Rattle.std.specs.Io.KnownBytes.{Appends}
use Rattle.std.proofs.lemmas.List.{append-nil}
use Rattle.pdb_list.specs.CommandTexts.{command_text}
use Rattle.pdb_list.proofs.Wrote.{wrote_then}
use Rattle.pdb_list.proofs.engine.write_refused.Goals as goal

pub returns-clause-wrote : goal.returns-clause-wrote
returns-clause-wrote g c = λ known steady first said.
    let file = c.args.pdb.now.file in
    let refusal = rw c.new-line.ensures.items at c.in_ok-put_refusal.ensures in
    let wrote = rw (c.deref.ensures.value, refusal.1) at c.in_ok-write_out.ensures.ok in
    let line : Appends (g.W.Write.contents c.args.out.now) (g.W.Write.contents c.write_out.new.out) (flat_map (command_text file) (first ∷ [])) = rw (append-nil (command_text file first), said refusal.0) wrote in
    wrote_then (command_text file) (g.W.Write.contents c.args.out.now) (g.W.Write.contents c.write_out.new.out) (g.W.Write.contents c.write_texts.new.out) (first ∷ []) c.args.commands.now c.write_texts.result line (c.write_texts.ensures.wrote known steady tt)
