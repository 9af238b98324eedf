use Rattle.std.proofs.Common.{refl, rules}
use Rattle.pdb_text.proofs.Written.{any_err, on_err, on_ok}
use Rattle.tool_printing.proofs.Marks.{left_end, left_end_front, left_front, left_more, piece_of}
use Rattle.tool_printing.proofs.printer.write_unmarked.Goals as goal

pub returns-in_err-write_counted-clause-err : goal.returns-in_err-write_counted-clause-err
returns-in_err-write_counted-clause-err g c =
    let there = c.in-Some.ensures.there in
    let piece = piece_of c.loop-at.rest.now _ _ c.in-Some.at there.0 there.1 c.in-Some.ensures.before c.split_at.ensures.front c.split_at.ensures.back in
    any_err c.from_residual.result (left_front _ _ _ _ _ _ _ c.loop-at.invariant.written piece c.in_err-write_counted.ensures.err)

pub loop-at-preserved : goal.loop-at-preserved
loop-at-preserved g c =
    let there = c.in-Some.ensures.there in
    let piece = piece_of c.loop-at.rest.now _ _ c.in-Some.at there.0 there.1 c.in-Some.ensures.before c.split_at.ensures.front c.split_at.ensures.back in
    record {
      written = left_more _ _ _ _ _ _ _ c.loop-at.invariant.written piece c.in_ok-write_counted.ensures.ok;
      failures = search rules;
    }

pub returns-clause-ok : goal.returns-clause-ok
returns-clause-ok g c = on_ok c.write_counted-2.result (left_end _ _ _ _ _ c.loop-at.invariant.written (c.in_default.ensures.none refl)) c.write_counted-2.ensures.ok

pub returns-clause-err : goal.returns-clause-err
returns-clause-err g c = on_err c.write_counted-2.result (left_end_front _ _ _ _ _ c.loop-at.invariant.written (c.in_default.ensures.none refl)) c.write_counted-2.ensures.err
