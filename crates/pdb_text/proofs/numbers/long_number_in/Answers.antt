use Rattle.std.proofs.Common.{◌∙◌, sym}
use Rattle.pdb_text.proofs.NumberWords.{long_number_read}
use Rattle.pdb_text.proofs.numbers.long_number_in.Goals as goal

pub returns-then-is_short_numeral : goal.returns-then-is_short_numeral
returns-then-is_short_numeral c = c.ok.ensures.value ∙ long_number_read c.args.word.now c.parse.result c.parse.ensures.value.0 (sym c.if-is_short_numeral.ensures)
