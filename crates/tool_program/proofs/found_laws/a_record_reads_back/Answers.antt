use Rattle.tool_program.proofs.FoundReadBack.{where_reads_back}
use Rattle.tool_program.proofs.found_laws.a_record_reads_back.Goals as goal

pub returns : goal.returns
returns c = where_reads_back
