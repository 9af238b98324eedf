use Rattle.std.proofs.Common.{◌∙◌}
use Rattle.pdb_text.proofs.Pairs.{hex_word}
use Rattle.pdb_text.proofs.digits.hex2.Goals as goal

pub returns : goal.returns
returns c = c.to_le_bytes.ensures ∙ hex_word c.args.n c.requires
