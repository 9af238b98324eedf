use Rattle.tool_arguments.proofs.Colons.{last_is}
use Rattle.tool_arguments.proofs.sources_asked.last_colon.Goals as goal

pub returns-clause-place : goal.returns-clause-place
returns-clause-place c = last_is c.args.word.now c.rfind_byte.result c.rfind_byte.ensures
