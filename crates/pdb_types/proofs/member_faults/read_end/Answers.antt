use Rattle.std.proofs.Common.{arith, sym, ◌∙◌}
use Rattle.std.proofs.lemmas.Result.{err_from_is_err_and}
use Rattle.pdb_types.specs.MemberViews.{shown_found}
use Rattle.pdb_types.proofs.MemberSteps.{entry_inside}
use Rattle.pdb_types.proofs.MemberFaultSteps.{entry_end, entry_read, last_end, none_read, refused_end, refused_read}
use Rattle.pdb_types.proofs.member_faults.read_end.Goals as goal

pub returns-in_err-found-clause-reads : goal.returns-in_err-found-clause-reads
returns-in_err-found-clause-reads c =
    let p = err_from_is_err_and c.from_residual.result c.from_residual.ensures.1 in
    let refused = refused_end c.loop-at.list c.args.bytes.now c.loop-at.at _ c.loop-at-test.true c.in_err-found.ensures.reads.0 in
    rw (p.1, p.2) (sym refused ∙ c.loop-at.invariant.ends)

pub loop-at-smaller : goal.loop-at-smaller
loop-at-smaller c =
    let inside = c.loop-at-test.true in
    let within = entry_inside c.args.bytes.now c.loop-at.at (shown_found c.in_ok-found.found) c.in_ok-found.ensures.reads in
    omega (arith, inside, within)

pub loop-at-preserved : goal.loop-at-preserved
loop-at-preserved c =
    let named = c.named_behind-list.ensures in
    let read = entry_read c.args.bytes.now c.loop-at.at (shown_found c.in_ok-found.found) c.in_ok-found.ensures.reads in
    record {
      ends = rw named (sym (entry_end c.loop-at.list c.args.bytes.now c.loop-at.at (shown_found c.in_ok-found.found) c.in_ok-found.ensures.reads) ∙ c.loop-at.invariant.ends);
      stepped = omega (arith, read, c.loop-at.invariant.stepped, c.read_entry.ensures.stepped);
    }

pub returns-in_err-found-clause-stepped : goal.returns-in_err-found-clause-stepped
returns-in_err-found-clause-stepped c =
    let one = refused_read c.args.bytes.now c.loop-at.at _ c.loop-at-test.true c.in_err-found.ensures.reads.0 in
    omega (arith, one, c.loop-at.invariant.stepped, c.read_entry.ensures.stepped)

pub returns-clause-reads : goal.returns-clause-reads
returns-clause-reads c =
    let past = c.loop-at-test.false in
    sym (last_end c.loop-at.list c.args.bytes.now c.loop-at.at (omega (arith, past))) ∙ c.loop-at.invariant.ends

pub returns-clause-stepped : goal.returns-clause-stepped
returns-clause-stepped c =
    let none = none_read c.args.bytes.now c.loop-at.at (omega (arith, c.loop-at-test.false)) in
    omega (arith, none, c.loop-at.invariant.stepped)
