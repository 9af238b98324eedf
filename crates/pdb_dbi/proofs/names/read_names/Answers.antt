use Rattle.std.proofs.Common.{◌≡◌, ◌+◌, ◌/◌, length, arith, refl}
use Rattle.std.proofs.lemmas.Result.{err_from_is_err_and}
use Rattle.pdb_dbi.proofs.NameList.{gone_to, pairs_refused, name_refuses, all_names}
use Rattle.pdb_dbi.proofs.names.read_names.Goals as goal

pub returns-in_err-pairs : goal.returns-in_err-pairs
returns-in_err-pairs c =
    let p = err_from_is_err_and c.from_residual-in_err-pairs.result c.from_residual-in_err-pairs.ensures.1 in
    let part = c.in_ok-part.ensures in
    let gone = gone_to c.args.bytes.now c.from-map.result c.seek.new.self (c.args.offset + c.args.size) c.from-map.ensures c.seek.ensures part.ends in
    let missing = rw (gone.0, gone.1) at c.in_err-pairs.ensures.0 in
    rw (p.1, p.2) (pairs_refused c.args.bytes.now c.in_ok-part.part.now c.args.offset c.args.size _ _ part.part refl missing)

pub returns-in_err-read_name : goal.returns-in_err-read_name
returns-in_err-read_name c =
    let p = err_from_is_err_and c.from_residual-in_err-read_name.result c.from_residual-in_err-read_name.ensures.1 in
    let part = c.in_ok-part.ensures in
    let gone = gone_to c.args.bytes.now c.from-map.result c.seek.new.self (c.args.offset + c.args.size) c.from-map.ensures c.seek.ensures part.ends in
    let pairs = rw (gone.0, gone.1) at c.in_ok-pairs.ensures in
    rw (p.1, p.2) (name_refuses c.args.bytes.now c.in_ok-part.part.now c.in_ok-pairs.pairs.now c.args.offset c.args.size _ c.loop-k.k _ _ part.part refl pairs c.loop-k-test.true c.loop-k.invariant c.in_err-read_name.ensures.0)

pub returns : goal.returns
returns c =
    let part = c.in_ok-part.ensures in
    let gone = gone_to c.args.bytes.now c.from-map.result c.seek.new.self (c.args.offset + c.args.size) c.from-map.ensures c.seek.ensures part.ends in
    let pairs = rw (gone.0, gone.1) at c.in_ok-pairs.ensures in
    let last : c.loop-k.k ≡ length c.in_ok-pairs.pairs.now / 8 = omega arith in
    all_names c.args.bytes.now c.in_ok-part.part.now c.in_ok-pairs.pairs.now c.args.offset c.args.size _ _ part.part refl pairs (rw (← last) c.loop-k.invariant)
