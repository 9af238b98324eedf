use Rattle.std.proofs.Common.{sym}
use Rattle.pdb_list.proofs.Spelling.{no_command}
use Rattle.pdb_list.proofs.command.plain_command.Goals as goal

pub returns-in_default : goal.returns-in_default
returns-in_default c = sym (no_command _ c.in_default.not-info c.in_default.not-names c.in_default.not-modules c.in_default.not-contributions c.in_default.not-sections c.in_default.not-globals)
