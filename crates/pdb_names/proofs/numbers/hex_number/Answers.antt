use Rattle.std.proofs.Common.{◌<◌, arith}
use Rattle.pdb_names.proofs.Hex.{digit_at, room}
use Rattle.pdb_names.proofs.numbers.hex_number.Goals as goal

pub overflow_mul-number : goal.overflow_mul-number
overflow_mul-number c =
    let fewer : c.loop-letter.letter-index < 16 = omega (arith, c.loop-letter-test.true, c.requires.few, c.loop-letter.auto.letter-index-end) in
    let fits = room c.loop-letter.letter-index c.loop-letter.number c.loop-letter.invariant.small fewer in
    omega (arith, fits)

pub overflow_add-number : goal.overflow_add-number
overflow_add-number c =
    let fewer : c.loop-letter.letter-index < 16 = omega (arith, c.loop-letter-test.true, c.requires.few, c.loop-letter.auto.letter-index-end) in
    let fits = room c.loop-letter.letter-index c.loop-letter.number c.loop-letter.invariant.small fewer in
    let digit = digit_at c.args.letters.now c.loop-letter.letter-index c.requires.lettered c.loop-letter-test.true in
    omega (arith, fits, digit, c.saturating_sub.ensures, c.from.ensures)
