use Rattle.tool_program.proofs.FoundReadBack.{found_reads_back}
use Rattle.tool_program.proofs.found_laws.a_found_name_reads_back.Goals as goal

pub returns : goal.returns
returns c = found_reads_back
