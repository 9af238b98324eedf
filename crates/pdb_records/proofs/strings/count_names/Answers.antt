use Rattle.std.proofs.Common.{◌<◌, ◌≤◌, length, ◌∙◌, arith, rules}
use Rattle.std.proofs.lemmas.Result.{err_from_is_err_and}
use Rattle.pdb_base.proofs.Places.{cstring_is}
use Rattle.pdb_records.proofs.NameLoops.{one_counted, empty_counted, all_counted, counting_fails}
use Rattle.pdb_records.proofs.strings.count_names.Goals as goal

pub returns-in_err-name : goal.returns-in_err-name
returns-in_err-name c =
    let p = err_from_is_err_and c.from_residual.result c.from_residual.ensures.1 in
    let read = rw c.loop-buffer.invariant.same at c.in_err-name.ensures.0 in
    let before : c.loop-buffer.buffer.place < length c.args.bytes.now = search rules in
    rw (p.1, p.2) (counting_fails c.args.bytes.now c.loop-buffer.buffer.place c.loop-buffer.count _ _ c.loop-buffer.invariant.counted before read, c.in_err-name.ensures.2, c.in_err-name.ensures.3)

pub returns-then-is_empty : goal.returns-then-is_empty
returns-then-is_empty c =
    let read = rw c.loop-buffer.invariant.same at c.in_ok-name.ensures.0 in
    let before : c.loop-buffer.buffer.place < length c.args.bytes.now = search rules in
    empty_counted c.args.bytes.now c.loop-buffer.buffer.place c.loop-buffer.count _ _ c.loop-buffer.invariant.counted before read (search rules)

pub loop-buffer-preserved : goal.loop-buffer-preserved
loop-buffer-preserved c =
    let read = rw c.loop-buffer.invariant.same at c.in_ok-name.ensures.0 in
    let before : c.loop-buffer.buffer.place < length c.args.bytes.now = search rules in
    let there = (cstring_is c.args.bytes.now c.loop-buffer.buffer.place _ read).there in
    let place = c.in_ok-name.ensures.2 in
    let bytes = c.in_ok-name.ensures.1 ∙ c.loop-buffer.invariant.same in
    let small = c.loop-buffer.invariant.small in
    record {
      inside = rw (place, bytes) (omega arith);
      small = rw place (omega arith);
      same = c.in_ok-name.ensures.1 ∙ c.loop-buffer.invariant.same;
      counted = rw c.in_ok-name.ensures.2 (one_counted c.args.bytes.now c.loop-buffer.buffer.place c.loop-buffer.count _ _ c.loop-buffer.invariant.counted before read (search rules));
    }

pub returns : goal.returns
returns c =
    let past : length c.args.bytes.now ≤ c.loop-buffer.buffer.place = search rules in
    all_counted c.args.bytes.now c.loop-buffer.buffer.place c.loop-buffer.count _ c.loop-buffer.invariant.counted past
