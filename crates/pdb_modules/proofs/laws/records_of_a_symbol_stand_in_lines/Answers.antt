use Rattle.pdb_modules.proofs.Among.{symbols_lines_stand_among}
use Rattle.pdb_modules.proofs.laws.records_of_a_symbol_stand_in_lines.Goals as goal

pub returns : goal.returns
returns c = symbols_lines_stand_among
