use Rattle.std.proofs.Common.{◌≡◌, ◌-◌, drop, arith}
use Rattle.std.proofs.lemmas.Grind.{common_steps}
use Rattle.pdb_text.specs.Digits.{short_hex}
use Rattle.pdb_text.proofs.Pairs.{last_digits}
use Rattle.pdb_text.proofs.digits.put_short_hex.Goals as goal

pub returns : goal.returns
returns c =
    let shown : drop (8 - c.hex_length.result) c.hex8-digits.result ≡ short_hex c.args.n = last_digits c.hex_length.result c.args.n c.hex8-digits.result c.hex8-digits.ensures c.hex_length.ensures.length c.hex_length.ensures.most in
    grind (arith, common_steps, shown)
