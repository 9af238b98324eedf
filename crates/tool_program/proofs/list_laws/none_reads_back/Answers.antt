use Rattle.tool_program.proofs.ListReadBack.{none_back}
use Rattle.tool_program.proofs.list_laws.none_reads_back.Goals as goal

pub returns : goal.returns
returns c = none_back
