use Rattle.std.proofs.Common.{Err, sym, ap, ◌∙◌, true≢false}
use Rattle.pdb_file.proofs.Known.{known_at_first, steady_at_first}
use Rattle.tool_program.proofs.Passed.{gives_refused, gives_text, ok_text, same_stop}
use Rattle.tool_program.proofs.several_files.check_file.Goals as goal

pub returns-in_err-pdb-clause-gives : goal.returns-in_err-pdb-clause-gives
returns-in_err-pdb-clause-gives g c = λ steady G known size.
    let here = known_at_first _ _ _ _ _ G c.new-source.ensures c.new-file.ensures known size in
    let sure = steady_at_first _ _ _ _ _ G c.new-source.ensures steady known size in
    let refused = rw here.1 at (c.in_err-pdb.ensures.refused here.0) in
    gives_refused c.args.format c.args.name.now G _ c.from_residual.result _ c.from_residual.ensures.1 c.in_err-pdb.ensures.unwritten (λ unsteady. true≢false (sym sure ∙ unsteady)) (λ e is. refused e (ap Err is))

pub returns-clause-gives : goal.returns-clause-gives
returns-clause-gives g c = λ steady G known size.
    let here = known_at_first _ _ _ _ _ G c.new-source.ensures c.new-file.ensures known size in
    let sure = (c.in_ok-pdb.ensures.continues.steady (steady_at_first _ _ _ _ _ G c.new-source.ensures steady known size)).0 in
    let opened = c.in_ok-pdb.ensures.continues.known here.0 in
    let told = (c.check_of.ensures.continues.known opened).1 in
    let is = rw here.1 at (c.in_ok-pdb.ensures.opened opened.1) in
    let text = rw (c.in_ok-pdb.ensures.file, here.1) at (c.check_of.ensures.text told) in
    let well = rw (c.in_ok-pdb.ensures.file, here.1) at (c.check_of.ensures.well told) in
    gives_text c.args.format c.args.name.now G _ c.check_of.result is text well c.check_of.ensures.unwritten (λ fails. true≢false (sym sure ∙ fails.unsteady))

pub returns-clause-text : goal.returns-clause-text
returns-clause-text g c = λ G known size.
    let here = known_at_first _ _ _ _ _ G c.new-source.ensures c.new-file.ensures known size in
    let opened = c.in_ok-pdb.ensures.continues.known here.0 in
    let told = (c.check_of.ensures.continues.known opened).1 in
    let is = rw here.1 at (c.in_ok-pdb.ensures.opened opened.1) in
    let text = rw (c.in_ok-pdb.ensures.file, here.1) at (c.check_of.ensures.text told) in
    let well = rw (c.in_ok-pdb.ensures.file, here.1) at (c.check_of.ensures.well told) in
    ok_text c.args.format c.args.name.now G c.check_of.result is text well

pub returns-in_err-pdb-clause-refused : goal.returns-in_err-pdb-clause-refused
returns-in_err-pdb-clause-refused g c = λ G known size e of.
    let here = known_at_first _ _ _ _ _ G c.new-source.ensures c.new-file.ensures known size in
    let refused = rw here.1 at (c.in_err-pdb.ensures.refused here.0) in
    refused e (ap Err (same_stop c.from_residual.result _ _ c.from_residual.ensures.1 of))
