use Rattle.tool_program.proofs.FoundReadBack.{sound_reads_back}
use Rattle.tool_program.proofs.found_laws.a_sound_file_reads_back.Goals as goal

pub returns : goal.returns
returns c = sound_reads_back
