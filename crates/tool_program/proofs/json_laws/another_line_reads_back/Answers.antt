use Rattle.tool_program.proofs.ReadBack.{unasked_reads_back}
use Rattle.tool_program.proofs.json_laws.another_line_reads_back.Goals as goal

pub returns : goal.returns
returns c = unasked_reads_back
