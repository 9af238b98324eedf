use Rattle.pdb_variables.proofs.CallNumbers.{calls_numbered}
use Rattle.pdb_variables.proofs.variable_laws.the_calls_are_those_of_the_functions_records.Goals as goal

pub returns : goal.returns
returns c = calls_numbered
