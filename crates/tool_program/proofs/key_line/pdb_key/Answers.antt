use Rattle.std.proofs.Common.{rules}
use Rattle.pdb_file.proofs.Known.{known_at_first}
use Rattle.tool_program.proofs.key_line.pdb_key.Goals as goal

pub returns-in-Ok-clause-key : goal.returns-in-Ok-clause-key
returns-in-Ok-clause-key g c = λ G known size.
    let here = known_at_first _ _ _ _ _ G c.new-source.ensures c.new-file.ensures known size in
    let key = rw here.1 at (c.in-Ok.ensures.key here.0) in
    search (rules, key)
