use Rattle.tool_arguments.proofs.Colons.{no_number}
use Rattle.tool_arguments.proofs.sources_asked.number_of.Goals as goal

pub returns-in-Err : goal.returns-in-Err
returns-in-Err c = no_number c.args.word.now c.in-Err.ensures.cases.0
