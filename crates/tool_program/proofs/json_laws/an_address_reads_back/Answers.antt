use Rattle.tool_program.proofs.ReadBack.{asked_reads_back}
use Rattle.tool_program.proofs.json_laws.an_address_reads_back.Goals as goal

pub returns : goal.returns
returns c = asked_reads_back
