use Rattle.tool_program.proofs.ListReadBack.{image_reads_back}
use Rattle.tool_program.proofs.list_laws.an_image_reads_back.Goals as goal

pub returns : goal.returns
returns c = image_reads_back
