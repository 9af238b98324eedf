use Rattle.tool_program.proofs.ListReadBack.{section_reads_back}
use Rattle.tool_program.proofs.list_laws.a_section_reads_back.Goals as goal

pub returns : goal.returns
returns c = section_reads_back
