use Rattle.tool_program.proofs.FoundReadBack.{finding_reads_back}
use Rattle.tool_program.proofs.found_laws.a_finding_reads_back.Goals as goal

pub returns : goal.returns
returns c = finding_reads_back
