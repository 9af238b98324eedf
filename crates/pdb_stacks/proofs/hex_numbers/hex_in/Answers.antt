use Rattle.std.proofs.Common.{◌∙◌, sym}
use Rattle.pdb_stacks.proofs.HexWords.{hex_is_text, hex_read}
use Rattle.pdb_stacks.proofs.hex_numbers.hex_in.Goals as goal

pub returns-in_default : goal.returns-in_default
returns-in_default c = absurd (c.in_default.ensures.cases.0 (hex_is_text c.args.digits.now (sym c.if-not-is_hex.ensures)))

pub returns : goal.returns
returns c =
    let read = rw c.in-Ok.ensures.cases.0 at c.from_str_radix.ensures.value in
    c.ok.ensures.value ∙ hex_read c.args.digits.now c.from_str_radix.result read (sym c.if-not-is_hex.ensures)
