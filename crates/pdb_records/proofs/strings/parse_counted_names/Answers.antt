use Rattle.std.proofs.lemmas.Result.{err_from_is_err_and}
use Rattle.pdb_records.proofs.NameLoops.{count_fails, counted_given, passing_not_given}
use Rattle.pdb_records.proofs.strings.parse_counted_names.Goals as goal

pub returns-in_err-count : goal.returns-in_err-count
returns-in_err-count c =
    let p = err_from_is_err_and c.from_residual.result c.from_residual.ensures.1 in
    let read = c.in_err-count.ensures in
    rw (p.1, p.2) (count_fails c.args.buffer.now.bytes c.args.buffer.now.place _ read.0, read.2, read.3)

pub returns-in_err-pass_names : goal.returns-in_err-pass_names
returns-in_err-pass_names c =
    let p = err_from_is_err_and c.from_residual-in_err-pass_names.result c.from_residual-in_err-pass_names.ensures.1 in
    let count = c.in_ok-count.ensures in
    let read = c.in_err-pass_names.ensures in
    rw (p.1, p.2) (passing_not_given c.args.buffer.now.bytes c.args.buffer.now.place _ _ _ _ _ count.0 count.1 count.2 c.in_ok-bytes.ensures.0 read.0, read.1, read.2)

pub returns : goal.returns
returns c =
    let count = c.in_ok-count.ensures in
    let size = c.from.ensures in
    rw size (counted_given c.args.buffer.now.bytes c.args.buffer.now.place _ _ _ _ count.0 count.1 count.2 c.in_ok-bytes.ensures.0 c.in_ok-pass_names.ensures)
