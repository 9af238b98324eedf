use Rattle.tool_program.proofs.ListReadBack.{key_reads_back}
use Rattle.tool_program.proofs.list_laws.a_key_reads_back.Goals as goal

pub returns : goal.returns
returns c = key_reads_back
