use Rattle.tool_program.proofs.ListReadBack.{stream_reads_back}
use Rattle.tool_program.proofs.list_laws.a_stream_reads_back.Goals as goal

pub returns : goal.returns
returns c = stream_reads_back
