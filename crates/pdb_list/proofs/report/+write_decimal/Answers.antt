use Rattle.std.proofs.Common.{arith}
use Rattle.std.proofs.lemmas.Fmt.{decimal_step}
use Rattle.pdb_text.proofs.Written.{any_err, on_ok, on_err, appends_then, front_of, front_then}
use Rattle.pdb_list.proofs.report.+write_decimal.Goals as goal

pub returns-in_err-write_decimal-clause-err : goal.returns-in_err-write_decimal-clause-err
returns-in_err-write_decimal-clause-err g t c =
    let step = decimal_step c.args.n (omega arith) (omega arith) in
    any_err c.from_residual.result (rw step (front_of _ _ _ _ c.in_err-write_decimal.ensures.err))

pub returns-clause-err : goal.returns-clause-err
returns-clause-err g t c =
    let step = decimal_step c.args.n (omega arith) (omega arith) in
    rw step (on_err c.write_out-2.result
    (front_then (g.W.Write.contents c.args.out.now) (g.W.Write.contents c.write_decimal.new.out) (g.W.Write.contents c.write_out-2.new.out) _ _ c.in_ok-write_decimal.ensures.ok)
    c.write_out-2.ensures.err)

pub returns-clause-ok : goal.returns-clause-ok
returns-clause-ok g t c =
    let step = decimal_step c.args.n (omega arith) (omega arith) in
    rw step (on_ok c.write_out-2.result
    (appends_then (g.W.Write.contents c.args.out.now) (g.W.Write.contents c.write_decimal.new.out) (g.W.Write.contents c.write_out-2.new.out) _ _ c.in_ok-write_decimal.ensures.ok)
    c.write_out-2.ensures.ok)
