use Rattle.pdb_index.proofs.LastRows.{finds_last}
use Rattle.pdb_index.proofs.laws.searches_find_the_last.Goals as goal

pub returns : goal.returns
returns c = λ key first behind at row rise. finds_last key first behind at rise row
