use Rattle.std.proofs.Common.{ap, Err}
use Rattle.pdb_file.proofs.Known.{known_at_first}
use Rattle.tool_program.proofs.Passed.{on_ok, same_stop}
use Rattle.tool_program.proofs.file_printing.print_stream_of.Goals as goal

pub returns-in_err-pdb-clause-refused : goal.returns-in_err-pdb-clause-refused
returns-in_err-pdb-clause-refused g c = λ G known size e of.
    let here = known_at_first _ _ _ _ _ G c.new-source.ensures c.new-file.ensures known size in
    let refused = rw here.1 at (c.in_err-pdb.ensures.refused here.0) in
    refused e (ap Err (same_stop c.from_residual.result _ _ c.from_residual.ensures.1 of))

pub returns-clause-prints : goal.returns-clause-prints
returns-clause-prints g c = λ G known size.
    let here = known_at_first _ _ _ _ _ G c.new-source.ensures c.new-file.ensures known size in
    let told = (c.print_stream.ensures.continues.known (c.in_ok-pdb.ensures.continues.known here.0)).1 in
    rw (c.in_ok-pdb.ensures.file, here.1) at (c.print_stream.ensures.prints told)

pub returns-clause-gap : goal.returns-clause-gap
returns-clause-gap g c = λ G known size.
    let here = known_at_first _ _ _ _ _ G c.new-source.ensures c.new-file.ensures known size in
    let told = (c.print_stream.ensures.continues.known (c.in_ok-pdb.ensures.continues.known here.0)).1 in
    rw (c.in_ok-pdb.ensures.file, here.1) at (c.print_stream.ensures.gap told)

pub returns-clause-opened : goal.returns-clause-opened
returns-clause-opened g c = λ G known size.
    let here = known_at_first _ _ _ _ _ G c.new-source.ensures c.new-file.ensures known size in
    let opened = rw here.1 at (c.in_ok-pdb.ensures.opened (c.in_ok-pdb.ensures.continues.known here.0).1) in
    on_ok c.print_stream.result _ opened
