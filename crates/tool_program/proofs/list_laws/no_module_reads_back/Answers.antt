use Rattle.tool_program.proofs.ListReadBack.{none_of_back}
use Rattle.tool_program.proofs.list_laws.no_module_reads_back.Goals as goal

pub returns : goal.returns
returns c = none_of_back
