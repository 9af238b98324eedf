use Rattle.std.proofs.lemmas.Result.{err_from_is_err_and}
use Rattle.pdb_records.proofs.NameLoops.{names_given, names_not_given}
use Rattle.pdb_records.proofs.strings.parse_names.Goals as goal

pub returns-in_err-count : goal.returns-in_err-count
returns-in_err-count c =
    let p = err_from_is_err_and c.from_residual-in_err-count.result c.from_residual-in_err-count.ensures.1 in
    let read = c.in_err-count.ensures in
    rw (p.1, p.2) (names_not_given c.args.buffer.now.bytes c.args.buffer.now.place _ _ c.in_ok-bytes.ensures.0 read.0, read.1, read.2)

pub returns : goal.returns
returns c = names_given c.args.buffer.now.bytes c.args.buffer.now.place _ _ c.in_ok-bytes.ensures.0 c.in_ok-count.ensures
