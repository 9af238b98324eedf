use Rattle.std.proofs.Common.{◌∙◌}
use Rattle.std.proofs.lemmas.Result.{err_from_is_err_and}
use Rattle.pdb_records.proofs.NameLoops.{one_passed, passing_stops}
use Rattle.pdb_records.proofs.strings.pass_names.Goals as goal

pub returns-in_err-_name : goal.returns-in_err-_name
returns-in_err-_name c =
    let p = err_from_is_err_and c.from_residual.result c.from_residual.ensures.1 in
    let read = rw c.loop.invariant.same at c.in_err-_name.ensures.0 in
    rw (p.1, p.2) (passing_stops c.args.bytes.now c.loop.buffer.place c.args.count c.loop.counter _ _ c.loop.invariant.passed c.loop-test.true read, c.in_err-_name.ensures.2, c.in_err-_name.ensures.3)

pub loop-preserved : goal.loop-preserved
loop-preserved c =
    let read = rw c.loop.invariant.same at c.in_ok-_name.ensures.0 in
    record {
      same = c.in_ok-_name.ensures.1 ∙ c.loop.invariant.same;
      passed = rw c.in_ok-_name.ensures.2 (one_passed c.args.bytes.now c.loop.buffer.place c.args.count c.loop.counter _ _ c.loop.invariant.passed c.loop-test.true read);
    }
