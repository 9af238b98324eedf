use Rattle.std.proofs.lemmas.Result.{err_from_is_err_and}
use Rattle.pdb_records.proofs.AnnotationRecords.{annotation_read, annotation_fails}
use Rattle.pdb_records.proofs.code.parse_annotation.Goals as goal

pub returns-in_err-strings : goal.returns-in_err-strings
returns-in_err-strings c =
    let p = err_from_is_err_and c.from_residual-in_err-strings.result c.from_residual-in_err-strings.ensures.1 in
    let at = c.in_ok-offset.ensures in
    let read = c.in_err-strings.ensures in
    rw (p.1, p.2) (annotation_fails c.args.kind c.args.buffer.now.bytes _ c.args.buffer.now.place _ _ _ c.requires at.0 at.1 at.2 read.0, read.1, read.2)

pub returns : goal.returns
returns c =
    let at = c.in_ok-offset.ensures in
    annotation_read c.args.kind c.args.buffer.now.bytes _ c.args.buffer.now.place _ _ _ c.requires at.0 at.1 at.2 c.in_ok-strings.ensures
