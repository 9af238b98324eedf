use Rattle.std.proofs.Common.{refl, inr, ap, Err, inl, sym, ◌∙◌, true≢false}
use Rattle.pdb_file.proofs.Known.{known_at_first, steady_at_first}
use Rattle.tool_program.proofs.Passed.{if_some_on, if_some_there, same_stop, unread_answering, unread_composing, wanted_err}
use Rattle.tool_program.proofs.file_printing.answer_file.Goals as goal

pub returns-in-Some-clause-prints : goal.returns-in-Some-clause-prints
returns-in-Some-clause-prints g c = λ G known size.
    let here = known_at_first _ _ _ _ _ G c.new-source.ensures c.new-file.ensures known size in
    let told = (c.other_key.ensures.continues.known (c.in_ok-pdb.ensures.continues.known here.0)).1 in
    let other = rw (c.in_ok-pdb.ensures.file, here.1, c.in-Some.is) at (c.in_ok-key.ensures.compares told) in
    if_some_there _ (g.I.Read.remaining c.args.input.now) (λ xs. (other, refl))

pub returns-in_err-answer_lines-in-None-clause-prints : goal.returns-in_err-answer_lines-in-None-clause-prints
returns-in_err-answer_lines-in-None-clause-prints g c = λ G known size.
    let here = known_at_first _ _ _ _ _ G c.new-source.ensures c.new-file.ensures known size in
    let compared = c.other_key.ensures.continues.known (c.in_ok-pdb.ensures.continues.known here.0) in
    let other = rw (c.in_ok-pdb.ensures.file, here.1, c.in-None.is) at (c.in_ok-key.ensures.compares compared.1) in
    let on = c.in_ok-resolver-in-None.ensures.continues in
    let told = (c.answer_lines.ensures.continues.known (on.known compared)).1 in
    let halted = rw (on.file, c.other_key.ensures.continues.file, c.in_ok-pdb.ensures.file, here.1) at (c.in_err-answer_lines-in-None.ensures.prints told) in
    if_some_on _ _ (g.I.Read.remaining c.args.input.now) (λ xs h. wanted_err _ _ _ _ _ c.from_residual-in_err-answer_lines-in-None.result _ c.from_residual-in_err-answer_lines-in-None.ensures.1 (inr (other, h))) halted

pub returns-clause-prints : goal.returns-clause-prints
returns-clause-prints g c = λ G known size.
    let here = known_at_first _ _ _ _ _ G c.new-source.ensures c.new-file.ensures known size in
    let compared = c.other_key.ensures.continues.known (c.in_ok-pdb.ensures.continues.known here.0) in
    let other = rw (c.in_ok-pdb.ensures.file, here.1, c.in-None.is) at (c.in_ok-key.ensures.compares compared.1) in
    let on = c.in_ok-resolver-in-None.ensures.continues in
    let told = (c.answer_lines.ensures.continues.known (on.known compared)).1 in
    let printed = rw (on.file, c.other_key.ensures.continues.file, c.in_ok-pdb.ensures.file, here.1) at (c.in_ok-answer_lines-in-None.ensures.prints told) in
    if_some_on _ _ (g.I.Read.remaining c.args.input.now) (λ xs h. (other, h)) printed

pub returns-in_err-pdb-clause-refused : goal.returns-in_err-pdb-clause-refused
returns-in_err-pdb-clause-refused g c = λ G known size e of.
    let here = known_at_first _ _ _ _ _ G c.new-source.ensures c.new-file.ensures known size in
    let refused = rw here.1 at (c.in_err-pdb.ensures.refused here.0) in
    inl (refused e (ap Err (same_stop c.from_residual.result _ _ c.from_residual.ensures.1 of)))

pub returns-in_err-key-clause-refused : goal.returns-in_err-key-clause-refused
returns-in_err-key-clause-refused g c = λ G known size e of.
    let here = known_at_first _ _ _ _ _ G c.new-source.ensures c.new-file.ensures known size in
    let told = (c.other_key.ensures.continues.known (c.in_ok-pdb.ensures.continues.known here.0)).1 in
    let refused = rw (c.in_ok-pdb.ensures.file, here.1) at (c.in_err-key.ensures.refused told) in
    inr (refused e (ap Err (same_stop c.from_residual-in_err-key.result _ _ c.from_residual-in_err-key.ensures.1 of)))

pub returns-in-Some-clause-opened : goal.returns-in-Some-clause-opened
returns-in-Some-clause-opened g c = λ G known size.
    let here = known_at_first _ _ _ _ _ G c.new-source.ensures c.new-file.ensures known size in
    rw here.1 at (c.in_ok-pdb.ensures.opened (c.in_ok-pdb.ensures.continues.known here.0).1)

pub returns-clause-opened : goal.returns-clause-opened
returns-clause-opened g c = λ G known size.
    let here = known_at_first _ _ _ _ _ G c.new-source.ensures c.new-file.ensures known size in
    rw here.1 at (c.in_ok-pdb.ensures.opened (c.in_ok-pdb.ensures.continues.known here.0).1)

pub returns-in_err-answer_lines-in-None-clause-steady : goal.returns-in_err-answer_lines-in-None-clause-steady
returns-in_err-answer_lines-in-None-clause-steady g c = λ steady G known size read.
    let sure = (c.in_ok-pdb.ensures.continues.steady (steady_at_first _ _ _ _ _ G c.new-source.ensures steady known size)).0 in
    let still = (c.other_key.ensures.continues.steady sure).0 in
    let held = (c.in_ok-resolver-in-None.ensures.continues.steady still).0 in
    absurd (unread_answering _ c.from_residual-in_err-answer_lines-in-None.result _ c.from_residual-in_err-answer_lines-in-None.ensures.1 c.in_err-answer_lines-in-None.ensures.stops (λ fails. true≢false (sym held ∙ fails.unsteady)) read)

pub returns-in_err-resolver-in-None-clause-steady : goal.returns-in_err-resolver-in-None-clause-steady
returns-in_err-resolver-in-None-clause-steady g c = λ steady G known size read.
    let sure = (c.in_ok-pdb.ensures.continues.steady (steady_at_first _ _ _ _ _ G c.new-source.ensures steady known size)).0 in
    let still = (c.other_key.ensures.continues.steady sure).0 in
    absurd (unread_composing _ c.from_residual-in_err-resolver-in-None.result _ c.from_residual-in_err-resolver-in-None.ensures.1 c.in_err-resolver-in-None.ensures.unwritten (λ unsteady. true≢false (sym still ∙ unsteady)) read)
