use Rattle.std.proofs.Common.{◌∙◌}
use Rattle.pdb_text.proofs.Pairs.{decimal_word}
use Rattle.pdb_text.proofs.digits.pair.Goals as goal

pub returns : goal.returns
returns c = c.to_le_bytes.ensures ∙ decimal_word c.args.n c.requires
