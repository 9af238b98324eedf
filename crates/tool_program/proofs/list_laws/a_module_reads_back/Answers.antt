use Rattle.tool_program.proofs.ListReadBack.{module_reads_back}
use Rattle.tool_program.proofs.list_laws.a_module_reads_back.Goals as goal

pub returns : goal.returns
returns c = module_reads_back
