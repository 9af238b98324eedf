use Rattle.tool_program.proofs.FoundReadBack.{source_reads_back}
use Rattle.tool_program.proofs.found_laws.a_source_reads_back.Goals as goal

pub returns : goal.returns
returns c = source_reads_back
