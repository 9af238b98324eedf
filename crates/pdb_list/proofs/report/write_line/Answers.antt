use Rattle.std.proofs.Common.{ap, codes, ◌++◌}
use Rattle.std.specs.Fmt.{decimal}
use Rattle.pdb_list.specs.Faults.{fault_line}
use Rattle.pdb_text.proofs.Written.{any_err, on_ok, on_err, appends_then, front_of, front_then}
use Rattle.pdb_list.proofs.report.write_line.Goals as goal

pub returns-in_err-write_out-in-Open-clause-err : goal.returns-in_err-write_out-in-Open-clause-err
returns-in_err-write_out-in-Open-clause-err g c =
    let e = ap fault_line c.in-Open.is in
    any_err c.from_residual.result (rw e (front_of _ _ (codes "cannot open: " ++ decimal c.in-Open.number) (codes "\n") (front_of _ _ (codes "cannot open: ") (decimal c.in-Open.number) c.in_err-write_out-in-Open.ensures.err)))

pub returns-in_err-write_decimal-in-Open-clause-err : goal.returns-in_err-write_decimal-in-Open-clause-err
returns-in_err-write_decimal-in-Open-clause-err g c =
    let e = ap fault_line c.in-Open.is in
    any_err c.from_residual-in_err-write_decimal-in-Open.result (rw e (front_of _ _ (codes "cannot open: " ++ decimal c.in-Open.number) (codes "\n")
    (front_then (g.W.Write.contents c.args.out.now) (g.W.Write.contents c.write_out-in-Open.new.out) (g.W.Write.contents c.write_decimal.new.out) (codes "cannot open: ") (decimal c.in-Open.number)
    c.in_ok-write_out-in-Open.ensures.ok c.in_err-write_decimal-in-Open.ensures.err)))

pub returns-in-Usage-clause-ok : goal.returns-in-Usage-clause-ok
returns-in-Usage-clause-ok g c = let e = ap fault_line c.in-Usage.is in rw e c.write_out.ensures.ok

pub returns-in-Usage-clause-err : goal.returns-in-Usage-clause-err
returns-in-Usage-clause-err g c = let e = ap fault_line c.in-Usage.is in rw e c.write_out.ensures.err

pub returns-in-Read-clause-ok : goal.returns-in-Read-clause-ok
returns-in-Read-clause-ok g c = let e = ap fault_line c.in-Read.is in rw e c.write_out-in-Read.ensures.ok

pub returns-in-Read-clause-err : goal.returns-in-Read-clause-err
returns-in-Read-clause-err g c = let e = ap fault_line c.in-Read.is in rw e c.write_out-in-Read.ensures.err

pub returns-in_ok-write_decimal-in-Open-clause-ok : goal.returns-in_ok-write_decimal-in-Open-clause-ok
returns-in_ok-write_decimal-in-Open-clause-ok g c =
    let e = ap fault_line c.in-Open.is in
    let front = appends_then (g.W.Write.contents c.args.out.now) (g.W.Write.contents c.write_out-in-Open.new.out) (g.W.Write.contents c.write_decimal.new.out) (codes "cannot open: ") (decimal c.in-Open.number)
    c.in_ok-write_out-in-Open.ensures.ok c.in_ok-write_decimal-in-Open.ensures.ok in
    rw e (on_ok c.write_out-in-Open-2.result (appends_then (g.W.Write.contents c.args.out.now) (g.W.Write.contents c.write_decimal.new.out) (g.W.Write.contents c.write_out-in-Open-2.new.out) (codes "cannot open: " ++ decimal c.in-Open.number) (codes "\n") front)
    c.write_out-in-Open-2.ensures.ok)

pub returns-in_ok-write_decimal-in-Open-clause-err : goal.returns-in_ok-write_decimal-in-Open-clause-err
returns-in_ok-write_decimal-in-Open-clause-err g c =
    let e = ap fault_line c.in-Open.is in
    let front = appends_then (g.W.Write.contents c.args.out.now) (g.W.Write.contents c.write_out-in-Open.new.out) (g.W.Write.contents c.write_decimal.new.out) (codes "cannot open: ") (decimal c.in-Open.number)
    c.in_ok-write_out-in-Open.ensures.ok c.in_ok-write_decimal-in-Open.ensures.ok in
    rw e (on_err c.write_out-in-Open-2.result (front_then (g.W.Write.contents c.args.out.now) (g.W.Write.contents c.write_decimal.new.out) (g.W.Write.contents c.write_out-in-Open-2.new.out) (codes "cannot open: " ++ decimal c.in-Open.number) (codes "\n") front)
    c.write_out-in-Open-2.ensures.err)
