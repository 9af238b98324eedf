use Rattle.std.proofs.Common.{sym, string_bytes}
use Rattle.pdb_list.proofs.Numbers.{no_word}
use Rattle.pdb_list.proofs.command.number_at.Goals as goal

pub returns-in-None-clause-number : goal.returns-in-None-clause-number
returns-in-None-clause-number g c = no_word string_bytes c.args.words.now c.args.at (sym c.in-None.ensures.lookup.0)
