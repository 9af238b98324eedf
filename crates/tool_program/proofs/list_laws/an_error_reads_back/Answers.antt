use Rattle.tool_program.proofs.ListReadBack.{error_reads_back}
use Rattle.tool_program.proofs.list_laws.an_error_reads_back.Goals as goal

pub returns : goal.returns
returns c = error_reads_back
