use Rattle.pdb_symbols.proofs.SymbolLaws.{spaced, one_for_four}
use Rattle.pdb_symbols.proofs.laws.symbol_spacing.Goals as goal

pub returns-clause-neighbours : goal.returns-clause-neighbours
returns-clause-neighbours c b p before after s t e = spaced b p before after s t e

pub returns-clause-few : goal.returns-clause-few
returns-clause-few c b p = one_for_four b p
